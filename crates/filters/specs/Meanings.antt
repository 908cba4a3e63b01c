-- What a visitor means, what its walk over a tree gives, and when it is even-handed.
use Rattle.std.specs.Prelude.{◌≡◌, Bool, true, false, Ok, Err, Result}
use Rattle.filters.specs.Trees.{Tree, constant, condition, And, Or, Not}

-- an answer of A or a fault of F for each constant, each condition, and And, Or, Not of answers
pub record Meaning (A F C : Type 0) : Type 0 where
  pub always : Bool → Result A F
  pub on : C → Result A F
  pub both : A → A → Result A F
  pub either : A → A → Result A F
  pub other : A → Result A F

abbrev pub then : {A B F : Type 0} → Result A F → (A → Result B F) → Result B F
then (Ok x) f = f x
then (Err e) f = Err e

-- left, right, then the join, up to the first fault
abbrev pub walked : {A F C : Type 0} → Meaning A F C → Tree C → Result A F
walked m (constant b) = m.always b
walked m (condition c) = m.on c
walked m (And l r) = then (walked m l) (λ x. then (walked m r) (λ y. m.both x y))
walked m (Or l r) = then (walked m l) (λ x. then (walked m r) (λ y. m.either x y))
walked m (Not t) = then (walked m t) (λ x. m.other x)

-- a fault, or an answer that is valid
abbrev pub Fine : {A F : Type 0} → (A → Bool) → Result A F → Type 0
Fine valid (Ok x) = valid x ≡ true
Fine valid (Err e) = Unit {0}

pub record EvenHanded {A F C : Type 0} (opposite : C → C) (m : Meaning A F C) : Type 0 where
  -- the answers that there are, of which the laws are owed: a word of the program has 64 bits, and the number that stands for it here any number
  pub valid : A → Bool
  pub top : A
  pub bottom : A
  pub meet : A → A → A
  pub join : A → A → A
  pub turn : A → A
  pub top_valid : valid top ≡ true
  pub bottom_valid : valid bottom ≡ true
  pub meet_valid : (x y : A) → valid x ≡ true → valid y ≡ true → valid (meet x y) ≡ true
  pub join_valid : (x y : A) → valid x ≡ true → valid y ≡ true → valid (join x y) ≡ true
  pub turn_valid : (x : A) → valid x ≡ true → valid (turn x) ≡ true
  pub on_valid : (c : C) → Fine valid (m.on c)
  -- constants, joins and Not never fault
  pub always_true : m.always true ≡ Ok top
  pub always_false : m.always false ≡ Ok bottom
  pub and_gives : (x y : A) → valid x ≡ true → valid y ≡ true → m.both x y ≡ Ok (meet x y)
  pub or_gives : (x y : A) → valid x ≡ true → valid y ≡ true → m.either x y ≡ Ok (join x y)
  pub not_gives : (x : A) → valid x ≡ true → m.other x ≡ Ok (turn x)
  -- Not exchanges the constants and undoes itself
  pub turn_top : turn top ≡ bottom
  pub turn_bottom : turn bottom ≡ top
  pub turn_turn : (x : A) → valid x ≡ true → turn (turn x) ≡ x
  -- Not of And is Or of the Nots, and the reverse
  pub turn_meet : (x y : A) → valid x ≡ true → valid y ≡ true → turn (meet x y) ≡ join (turn x) (turn y)
  pub turn_join : (x y : A) → valid x ≡ true → valid y ≡ true → turn (join x y) ≡ meet (turn x) (turn y)
  -- AlwaysTrue in And gives the other side, in Or itself; AlwaysFalse the reverse
  pub top_meet : (x : A) → valid x ≡ true → meet top x ≡ x
  pub meet_top : (x : A) → valid x ≡ true → meet x top ≡ x
  pub top_join : (x : A) → valid x ≡ true → join top x ≡ top
  pub join_top : (x : A) → valid x ≡ true → join x top ≡ top
  pub bottom_join : (x : A) → valid x ≡ true → join bottom x ≡ x
  pub join_bottom : (x : A) → valid x ≡ true → join x bottom ≡ x
  pub bottom_meet : (x : A) → valid x ≡ true → meet bottom x ≡ bottom
  pub meet_bottom : (x : A) → valid x ≡ true → meet x bottom ≡ bottom
  -- a condition's opposite gives Not of its answer, and faults when it does
  pub opposite_gives : (c : C) (x : A) → m.on c ≡ Ok x → m.on (opposite c) ≡ Ok (turn x)
  pub opposite_faults : (c : C) (e : F) → m.on c ≡ Err e → (f : F) × (m.on (opposite c) ≡ Err f)

-- the meaning faults not on the condition
abbrev pub Answered : {A F C : Type 0} → Meaning A F C → C → Type 0
Answered {A} m c = (x : A) × (m.on c ≡ Ok x)
