use Rattle.std.proofs.Common.{map, reverse, rules, tests}
use Rattle.std.proofs.lemmas.Iterator.{YieldsList-from_map}
use Rattle.std.proofs.lemmas.Iterator.Consumers.{YieldsList-at}
use Rattle.schema.specs.Names.{letter, rest}
use Rattle.schema.proofs.Ends.{yields_back, same_from_eq, spelled_back}
use Rattle.schema.proofs.names.Case.is_same.Goals as goal

pub returns : goal.returns
returns c =
    let l = letter c.args.self in
    let a = rest c.args.a in
    let b = rest c.args.b in
    let same =
    same_from_eq _ (map l (reverse a)) (map l (reverse b)) c.eq.result c.eq.ensures.ran
    (YieldsList-from_map _ l (YieldsList-at c.map.ensures.source (yields_back c.args.a)) c.map.ensures.closure (λ x r q k. search (rules, tests)))
    (YieldsList-from_map _ l (YieldsList-at c.map-2.ensures.source (yields_back c.args.b)) c.map-2.ensures.closure (λ x r q k. search (rules, tests))) in
    record { compares_whole_names = spelled_back c.args.self a b c.eq.result same }
