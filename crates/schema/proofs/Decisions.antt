-- Tests that decide rules.
use Rattle.std.proofs.Common.{◌≡◌, ℕ, ◌<◌, Bool, true, false, not, List, length, Decides, subst, refl, sym, ◌∙◌}
use Rattle.std.proofs.lemmas.Bool.{false≢true}
use Rattle.values.specs.Contents.{inside}
use Rattle.schema.specs.declared.fields.Field.{Field}
use Rattle.schema.specs.declared.fields.Schema.{Schema}
use Rattle.schema.specs.Lines.{field_at}
use Rattle.schema.specs.Listed.{Formed}
use Rattle.schema.specs.Rules.{Parent, Shallow, NewNumber, NewName, Keeps}

pub never : {P : Type 0} → (P → ⊥) → Decides false P
never f = (λ h. absurd (false≢true h), λ p. absurd (f p))

-- what a test that failed decides does not hold
pub refuted : {P : Type 0} (r : Bool) → Decides r P → r ≡ false → P → ⊥
refuted r d e p = false≢true (sym e ∙ d.1 p)

pub formed : (fs : List Field) (t : List ℕ) (i : ℕ) (r : Bool) → i < 128 → Parent fs i → inside (length t) (field_at fs i).name ≡ true → Decides r (Shallow fs i) → Decides r (Formed fs t i)
formed fs t i r few parent name depth = (λ h. (few, parent, name, depth.0 h), λ f. depth.1 f.3)

pub kept_form : (fs : List Field) (t : List ℕ) (i : ℕ) → Keeps fs t i → Formed fs t i
kept_form fs t i k = (k.few, k.parent, k.name, k.depth)

-- what is asked of a field beside its form, by the fields before it in the schema b
abbrev New : Schema → ℕ → Type 0
New b i = NewNumber b.fields.now i × NewName b.fields.now b.text.now i

pub kept : (s b : Schema) (i k : ℕ) → b ≡ s → k ≡ i → Formed s.fields.now s.text.now i → New b k → Keeps s.fields.now s.text.now i
kept s b i k e d f new =
    let here : New s i = subst (New s) d (subst (λ r. New r k) e new) in
    record { few = f.0; parent = f.1; name = f.2; depth = f.3; number = here.0; full = here.1 }

pub kept_new : (s b : Schema) (i k : ℕ) → b ≡ s → k ≡ i → Keeps s.fields.now s.text.now i → New b k
kept_new s b i k e d keeps = subst (λ r. New r k) (sym e) (subst (New s) (sym d) (keeps.number, keeps.full))

-- the same of a test that was turned round
pub refuted_not : {P : Type 0} (b r : Bool) → Decides b P → r ≡ not b → r ≡ true → P → ⊥
refuted_not true r d e t p = cc
refuted_not false r d e t p = false≢true (d.1 p)

pub granted_not : {P : Type 0} (b r : Bool) → Decides b P → r ≡ not b → r ≡ false → P
granted_not true r d e f = d.0 refl
granted_not false r d e f = cc
