-- Runs of calls on a book that is empty at first, and the ledger on paper beside it.
use Rattle.std.specs.Prelude.{ℕ, true, cond, List, [], ◌∷◌, ◌==◌}
use Rattle.std.proofs.Math.Option.{Option, some, none}
use Rattle.filters.specs.Trees.{Tree, And, Or, Not, and, or, negated, rewritten}

-- a call with its arguments, what it lays as a tree over conditions C
pub data Call (C : Type 0) : Type 0 where
  lay : Tree C → Call C
  call_and call_or : ℕ → ℕ → Call C
  call_not call_negate call_rewrite call_bind : ℕ → Call C

-- a call, and the number answered if it was granted
pub record Turn (C : Type 0) : Type 0 where
  pub call : Call C
  pub answered : Option ℕ

-- filter numbers with what is entered there
abbrev pub Sheet : Type 0 → Type 0
Sheet X = ℕ → Option X

abbrev pub blank : {X : Type 0} → Sheet X
blank n = none

abbrev pub enter : {X : Type 0} → ℕ → X → Sheet X → Sheet X
enter n x s k = cond (n == k) (some x) (s k)

abbrev pub take_out : {X : Type 0} → ℕ → Sheet X → Sheet X
take_out n s k = cond (n == k) none (s k)

-- how a kind of sheet makes an entry from entries
pub record Hand (C X : Type 0) : Type 0 where
  pub of_lay : Tree C → X
  pub of_and : X → X → X
  pub of_or : X → X → X
  pub of_not : X → X
  pub of_negate : X → X
  pub of_rewrite : X → X

-- the ledger on paper: wordings, unfolded
abbrev pub paper : {C : Type 0} → Hand C (Tree C)
paper = record {
  of_lay = λ w. w;
  of_and = And;
  of_or = Or;
  of_not = Not;
  of_negate = Not;
  of_rewrite = λ w. w;
}

-- the book: filters as the calls make them
abbrev pub book : {C : Type 0} → (C → C) → Hand C (Tree C)
book opposite = record {
  of_lay = λ t. t;
  of_and = and;
  of_or = or;
  of_not = Not;
  of_negate = negated opposite;
  of_rewrite = rewritten true opposite;
}

-- the filter is taken out, and the number answered entered
abbrev pub from_one : {X : Type 0} → (X → X) → ℕ → ℕ → Sheet X → Option X → Sheet X
from_one f a n s none = s
from_one f a n s (some x) = enter n (f x) (take_out a s)

-- both sides are taken out, and the number answered entered
abbrev pub from_two : {X : Type 0} → (X → X → X) → ℕ → ℕ → ℕ → Sheet X → Option X → Option X → Sheet X
from_two f a b n s none q = s
from_two f a b n s (some x) none = s
from_two f a b n s (some x) (some y) = enter n (f x y) (take_out a (take_out b s))

-- binding changes nothing
abbrev pub granted : {C X : Type 0} → Hand C X → Call C → ℕ → Sheet X → Sheet X
granted h (lay t) n s = enter n (h.of_lay t) s
granted h (call_and a b) n s = from_two h.of_and a b n s (s a) (s b)
granted h (call_or a b) n s = from_two h.of_or a b n s (s a) (s b)
granted h (call_not a) n s = from_one h.of_not a n s (s a)
granted h (call_negate a) n s = from_one h.of_negate a n s (s a)
granted h (call_rewrite a) n s = from_one h.of_rewrite a n s (s a)
granted h (call_bind a) n s = s

-- nor does a call that is refused
abbrev pub step : {C X : Type 0} → Hand C X → Call C → Option ℕ → Sheet X → Sheet X
step h c (some n) s = granted h c n s
step h c none s = s

-- what is entered after the turns, the newest first
abbrev pub after : {C X : Type 0} → Hand C X → List (Turn C) → Sheet X
after h [] = blank
after h (t ∷ ts) = step h t.call t.answered (after h ts)
