-- Bytes below 128 are text.
use Rattle.std.specs.Prelude.{◌≡◌, ℕ, true, List, length, IsUtf8, nat_lt}
use Rattle.std.specs.List.{list_all}
use Rattle.std.proofs.Common.{arith}
use Rattle.std.proofs.lemmas.Bool.{ltb-true}
use Rattle.std.proofs.lemmas.List.Sums.{AllPass-from_list_all}
use Rattle.std.proofs.lemmas.Str.{IsUtf8-from_ascii}
use Rattle.std.proofs.lemmas.Str.Ascii.{IsAscii-from_reads}

pub ascii_is_text : (bs : List ℕ) → list_all (λ c. nat_lt c 128) bs ≡ true → IsUtf8 bs
ascii_is_text bs h = IsUtf8-from_ascii bs (IsAscii-from_reads bs (length bs) (omega arith) (λ k l. ltb-true _ 128 (AllPass-from_list_all (λ c. nat_lt c 128) bs h k 0 l)))
