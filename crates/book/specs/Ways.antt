-- A book's tables, what it is read by, and what a call does to it.
use Rattle.std.specs.Prelude.{◌≡◌, ℕ, Bool, length, Result}
use Rattle.values.specs.declared.refusals.Refused.{Refused}
use Rattle.nodes.specs.declared.term.Extent.{Extent}
use Rattle.book.specs.declared.book.Book.{Book}
use Rattle.book.specs.Calls.{Tables, Setting, Asked, tables_of, reads, after, performed}
use Rattle.book.specs.Law.{Carries}

abbrev pub extent : {T : Type 0} → Book T → Extent
extent b = record { text = length b.text.now; places = length b.places.now }

abbrev pub tables : {T : Type 0} → Book T → Tables T
tables b = tables_of b.slots.now b.used b.literals.now b.stored

abbrev pub setting : {T : Type 0} → (Extent → T → Bool) → Book T → Setting T
setting within b = reads within b.text.now (length b.places.now)

-- the two are read by one setting: the text is one, and as many places are there
abbrev pub IsReadAlike : {T : Type 0} → (Extent → T → Bool) → Book T → Book T → Type 0
IsReadAlike within b b' = setting within b' ≡ setting within b

-- a call that was asked of a book took it from b to b', with this answer
pub record Does {T : Type 0} (within : Extent → T → Bool) (asked : Asked T) (b b' : Book T) (answer : Result ℕ Refused) : Type 0 where
  pub answers_and_leaves_what_the_rules_give : after (tables b') answer ≡ performed (setting within b) asked (tables b)
  pub reads_the_same_text : IsReadAlike within b b'
  pub is_a_step_of_every_run : Carries (setting within b) asked (tables b) (tables b') answer
