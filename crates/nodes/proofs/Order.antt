-- What the check asks of each node by itself.
use Rattle.std.proofs.Common.{◌≡◌, ℕ, ◌<◌, Bool, true, false, ◌&&◌, ltb, List, refl, ap₂, arith, ltb-true, lt-ltb}
use Rattle.filters.specs.Placed.{Form, always, test, both, either, other}
use Rattle.nodes.specs.declared.slots.Slot.{Slot}
use Rattle.nodes.specs.Conditions.{opposite}
use Rattle.nodes.specs.Tables.{Held, nodes}
use Rattle.nodes.specs.Soundness.{in_order}

-- the inputs are below the node
abbrev pub Below : {X : Type 0} → Form X → ℕ → Type 0
Below (always b) k = Unit {0}
Below (test c) k = Unit {0}
Below (both l r) k = (l < k) × (r < k)
Below (either l r) k = (l < k) × (r < k)
Below (other i) k = i < k

-- a condition fits
abbrev pub Fit : {X : Type 0} → (X → Bool) → Form X → Type 0
Fit fit (always b) = Unit {0}
Fit fit (test c) = fit c ≡ true
Fit fit (both l r) = Unit {0}
Fit fit (either l r) = Unit {0}
Fit fit (other i) = Unit {0}

abbrev pub Ordered : {T : Type 0} → List (Slot T) → ℕ → Type 0
Ordered xs u = (k : ℕ) → k < u → Below (nodes xs k) k

abbrev pub Fitting : {T : Type 0} → (Held T → Bool) → List (Slot T) → ℕ → Type 0
Fitting fit xs u = (k : ℕ) → k < u → Fit fit (nodes xs k)

-- the opposite of what fits does too
abbrev pub Fair : {T : Type 0} → (Held T → Bool) → Type 0
Fair {T} fit = (c : Held T) → fit c ≡ true → fit (opposite c) ≡ true

pub both_true : (a b : Bool) → a && b ≡ true → (a ≡ true) × (b ≡ true)
both_true true b e = (refl, e)
both_true false b e = let z : ◌≡◌ {A = ℕ} 0 1 = cc in absurd (omega arith)

module _ {X : Type 0} (fit : X → Bool) where
  pub order_below : (x : Form X) (n : ℕ) → in_order fit x n ≡ true → Below x n
  order_below (always b) n e = tt
  order_below (test c) n e = tt
  order_below (both l r) n e = let d = both_true (ltb l n) (ltb r n) e in (ltb-true l n d.0, ltb-true r n d.1)
  order_below (either l r) n e = let d = both_true (ltb l n) (ltb r n) e in (ltb-true l n d.0, ltb-true r n d.1)
  order_below (other i) n e = ltb-true i n e

  pub order_fit : (x : Form X) (n : ℕ) → in_order fit x n ≡ true → Fit fit x
  order_fit (always b) n e = tt
  order_fit (test c) n e = e
  order_fit (both l r) n e = tt
  order_fit (either l r) n e = tt
  order_fit (other i) n e = tt

  pub in_order_of : (x : Form X) (n : ℕ) → Below x n → Fit fit x → in_order fit x n ≡ true
  in_order_of (always b) n h f = refl
  in_order_of (test c) n h f = f
  in_order_of (both l r) n h f = ap₂ ◌&&◌ (lt-ltb l n h.0) (lt-ltb r n h.1)
  in_order_of (either l r) n h f = ap₂ ◌&&◌ (lt-ltb l n h.0) (lt-ltb r n h.1)
  in_order_of (other i) n h f = lt-ltb i n h
