use Rattle.std.proofs.Common.{Ok, Err, ◌∙◌}
use Rattle.std.proofs.lemmas.Result.{err_from_is_err_and}
use Rattle.walk.proofs.Turns.{pops_inside, visits_inside, resumes_inside, visits_next, resumes_next}
use Rattle.walk.proofs.walks.run.Goals as goal

pub visit-requires-clause-room : goal.visit-requires-clause-room
visit-requires-clause-room g c = visits_inside c.turns.invariant c.in-Visit.is

pub returns-in_err-turn-in-Visit : goal.returns-in_err-turn-in-Visit
returns-in_err-turn-in-Visit g c =
    let p = err_from_is_err_and c.from_residual.result c.from_residual.ensures.1 in
    let e = c.in_err-turn-in-Visit.ensures in
    record { visits_the_filter = rw (p.1, p.2) (visits_next c.turns.invariant c.visit.new.stack.frames.now c.visit.new.stack.count (Err c.in_err-turn-in-Visit.field-0.0) c.in-Visit.is e.goes_by_the_node e.waits_for_inputs e.keeps_the_table) }

pub turns-smaller-in_ok-turn-in-Visit : goal.turns-smaller-in_ok-turn-in-Visit
turns-smaller-in_ok-turn-in-Visit g c =
    let e = c.in_ok-turn-in-Visit.ensures in
    (visits_next c.turns.invariant c.visit.new.stack.frames.now c.visit.new.stack.count (Ok c.in_ok-turn-in-Visit.turn) c.in-Visit.is e.goes_by_the_node e.waits_for_inputs e.keeps_the_table).1

pub turns-preserved-in_ok-turn-in-Visit : goal.turns-preserved-in_ok-turn-in-Visit
turns-preserved-in_ok-turn-in-Visit g c =
    let e = c.in_ok-turn-in-Visit.ensures in
    (visits_next c.turns.invariant c.visit.new.stack.frames.now c.visit.new.stack.count (Ok c.in_ok-turn-in-Visit.turn) c.in-Visit.is e.goes_by_the_node e.waits_for_inputs e.keeps_the_table).0

pub pop-requires : goal.pop-requires
pop-requires g c = pops_inside c.turns.invariant

pub resume-requires : goal.resume-requires
resume-requires g c = record { room = resumes_inside c.turns.invariant c.in-Some.frame _ _ c.in-Some.ensures.is_the_top c.in-Some.ensures.keeps_the_table }

pub returns-in_err-turn-in-Some : goal.returns-in_err-turn-in-Some
returns-in_err-turn-in-Some g c =
    let p = err_from_is_err_and c.from_residual-in_err-turn-in-Some.result c.from_residual-in_err-turn-in-Some.ensures.1 in
    let e = c.in_err-turn-in-Some.ensures in
    let s = c.in-Some.ensures in
    record { visits_the_filter = rw (p.1, p.2) (resumes_next c.turns.invariant c.resume.new.stack.frames.now c.resume.new.stack.count (Err c.in_err-turn-in-Some.field-0.0) c.in-Answer.is s.is_the_top e.goes_by_the_frame e.waits_for_the_right (e.keeps_the_table ∙ s.keeps_the_table)) }

pub turns-smaller : goal.turns-smaller
turns-smaller g c =
    let e = c.in_ok-turn-in-Some.ensures in
    let s = c.in-Some.ensures in
    (resumes_next c.turns.invariant c.resume.new.stack.frames.now c.resume.new.stack.count (Ok c.in_ok-turn-in-Some.turn) c.in-Answer.is s.is_the_top e.goes_by_the_frame e.waits_for_the_right (e.keeps_the_table ∙ s.keeps_the_table)).1

pub turns-preserved : goal.turns-preserved
turns-preserved g c =
    let e = c.in_ok-turn-in-Some.ensures in
    let s = c.in-Some.ensures in
    (resumes_next c.turns.invariant c.resume.new.stack.frames.now c.resume.new.stack.count (Ok c.in_ok-turn-in-Some.turn) c.in-Answer.is s.is_the_top e.goes_by_the_frame e.waits_for_the_right (e.keeps_the_table ∙ s.keeps_the_table)).0
