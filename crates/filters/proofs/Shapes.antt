-- What each operation keeps of a tree's conditions, Nots and constants, and of what its conditions are read as.
use Rattle.std.proofs.Common.{◌≡◌, Bool, true, false, sym, refl, ap, ◌∙◌, ap₂, inl, inr, true≢false}
use mathlib.Core.Option.{Option, some, none}
use Rattle.filters.specs.Trees.{Tree, constant, condition, And, Or, Not, plain, and_by, or_by, and, or, and_if, or_if, negated, rewritten, mapped, Each, NoNot, NoConstant, Lone}
use Rattle.filters.proofs.Views.{and_view, or_view}

-- a lone tree that is no constant has none
rid : {X : Type 0} (t : Tree X) → Lone t → plain t ≡ none → NoConstant t
rid t (inl k) e = let z : ◌≡◌ {A = Bool} true false = cc (ap plain k.1) in absurd (true≢false z)
rid t (inr h) e = h

module _ {X : Type 0} (opposite : X → X) where
  negated_no_not : (t : Tree X) → NoNot t → NoNot (negated opposite t)
  negated_no_not (constant b) h = tt
  negated_no_not (condition c) h = tt
  negated_no_not (And l r) h = (negated_no_not l h.0, negated_no_not r h.1)
  negated_no_not (Or l r) h = (negated_no_not l h.0, negated_no_not r h.1)
  negated_no_not (Not t) h = absurd h

  negated_no_constant : (t : Tree X) → NoConstant t → NoConstant (negated opposite t)
  negated_no_constant (constant b) h = h
  negated_no_constant (condition c) h = tt
  negated_no_constant (And l r) h = (negated_no_constant l h.0, negated_no_constant r h.1)
  negated_no_constant (Or l r) h = (negated_no_constant l h.0, negated_no_constant r h.1)
  negated_no_constant (Not t) h = h

  negated_lone : (t : Tree X) → Lone t → Lone (negated opposite t)
  negated_lone t (inl k) = inl (_, ap (negated opposite) k.1)
  negated_lone t (inr h) = inr (negated_no_constant t h)

  and_if_no_not : (folds : Bool) (l r : Tree X) → NoNot l → NoNot r → NoNot (and_if folds l r)
  and_if_no_not true l r p q = and_view NoNot l r (λ e. p) (λ e. q) (λ e. q) (λ e. p) (λ d e. (p, q))
  and_if_no_not false l r p q = (p, q)

  or_if_no_not : (folds : Bool) (l r : Tree X) → NoNot l → NoNot r → NoNot (or_if folds l r)
  or_if_no_not true l r p q = or_view NoNot l r (λ e. p) (λ e. q) (λ e. q) (λ e. p) (λ d e. (p, q))
  or_if_no_not false l r p q = (p, q)

  pub rewritten_no_not : (folds : Bool) (t : Tree X) → NoNot (rewritten folds opposite t)
  rewritten_no_not folds (constant b) = tt
  rewritten_no_not folds (condition c) = tt
  rewritten_no_not folds (And l r) = and_if_no_not folds (rewritten folds opposite l) (rewritten folds opposite r) (rewritten_no_not folds l) (rewritten_no_not folds r)
  rewritten_no_not folds (Or l r) = or_if_no_not folds (rewritten folds opposite l) (rewritten folds opposite r) (rewritten_no_not folds l) (rewritten_no_not folds r)
  rewritten_no_not folds (Not t) = negated_no_not (rewritten folds opposite t) (rewritten_no_not folds t)

  pub rewritten_lone : (t : Tree X) → Lone (rewritten true opposite t)
  rewritten_lone (constant b) = inl (b, refl)
  rewritten_lone (condition c) = inr tt
  rewritten_lone (And l r) =
      let h = rewritten_lone l in
      let i = rewritten_lone r in
      and_view Lone (rewritten true opposite l) (rewritten true opposite r) (λ e. h) (λ e. i) (λ e. i) (λ e. h) (λ d e. inr (rid (rewritten true opposite l) h d, rid (rewritten true opposite r) i e))
  rewritten_lone (Or l r) =
      let h = rewritten_lone l in
      let i = rewritten_lone r in
      or_view Lone (rewritten true opposite l) (rewritten true opposite r) (λ e. h) (λ e. i) (λ e. i) (λ e. h) (λ d e. inr (rid (rewritten true opposite l) h d, rid (rewritten true opposite r) i e))
  rewritten_lone (Not t) = negated_lone (rewritten true opposite t) (rewritten_lone t)

-- reading the conditions as others, opposites as opposites, goes through every operation
module _ {X Y : Type 0} (f : X → Y) where
  mapped_plain : (t : Tree X) → plain (mapped f t) ≡ plain t
  mapped_plain (constant b) = refl
  mapped_plain (condition c) = refl
  mapped_plain (And l r) = refl
  mapped_plain (Or l r) = refl
  mapped_plain (Not t) = refl

  and_by_mapped : (p q : Option Bool) (l r : Tree X) → mapped f (and_by p q l r) ≡ and_by p q (mapped f l) (mapped f r)
  and_by_mapped (some false) q l r = refl
  and_by_mapped (some true) q l r = refl
  and_by_mapped none (some false) l r = refl
  and_by_mapped none (some true) l r = refl
  and_by_mapped none none l r = refl

  or_by_mapped : (p q : Option Bool) (l r : Tree X) → mapped f (or_by p q l r) ≡ or_by p q (mapped f l) (mapped f r)
  or_by_mapped (some true) q l r = refl
  or_by_mapped (some false) q l r = refl
  or_by_mapped none (some true) l r = refl
  or_by_mapped none (some false) l r = refl
  or_by_mapped none none l r = refl

  pub and_mapped : (l r : Tree X) → mapped f (and l r) ≡ and (mapped f l) (mapped f r)
  and_mapped l r = and_by_mapped (plain l) (plain r) l r ∙ ap₂ (λ p q. and_by p q (mapped f l) (mapped f r)) (sym (mapped_plain l)) (sym (mapped_plain r))

  pub or_mapped : (l r : Tree X) → mapped f (or l r) ≡ or (mapped f l) (mapped f r)
  or_mapped l r = or_by_mapped (plain l) (plain r) l r ∙ ap₂ (λ p q. or_by p q (mapped f l) (mapped f r)) (sym (mapped_plain l)) (sym (mapped_plain r))

  and_if_mapped : (folds : Bool) (l r : Tree X) → mapped f (and_if folds l r) ≡ and_if folds (mapped f l) (mapped f r)
  and_if_mapped true l r = and_mapped l r
  and_if_mapped false l r = refl

  or_if_mapped : (folds : Bool) (l r : Tree X) → mapped f (or_if folds l r) ≡ or_if folds (mapped f l) (mapped f r)
  or_if_mapped true l r = or_mapped l r
  or_if_mapped false l r = refl

  module _ (turn : X → X) (opposite : Y → Y) (fair : (x : X) → f (turn x) ≡ opposite (f x)) where
    pub negated_mapped : (t : Tree X) → mapped f (negated turn t) ≡ negated opposite (mapped f t)
    negated_mapped (constant b) = refl
    negated_mapped (condition c) = ap condition (fair c)
    negated_mapped (And l r) = ap₂ Or (negated_mapped l) (negated_mapped r)
    negated_mapped (Or l r) = ap₂ And (negated_mapped l) (negated_mapped r)
    negated_mapped (Not t) = refl

    pub rewritten_mapped : (folds : Bool) (t : Tree X) → mapped f (rewritten folds turn t) ≡ rewritten folds opposite (mapped f t)
    rewritten_mapped folds (constant b) = refl
    rewritten_mapped folds (condition c) = refl
    rewritten_mapped folds (And l r) = and_if_mapped folds (rewritten folds turn l) (rewritten folds turn r) ∙ ap₂ (and_if folds) (rewritten_mapped folds l) (rewritten_mapped folds r)
    rewritten_mapped folds (Or l r) = or_if_mapped folds (rewritten folds turn l) (rewritten folds turn r) ∙ ap₂ (or_if folds) (rewritten_mapped folds l) (rewritten_mapped folds r)
    rewritten_mapped folds (Not t) = negated_mapped (rewritten folds turn t) ∙ ap (negated opposite) (rewritten_mapped folds t)

-- readings that agree on each condition of a tree
pub mapped_same : {X Y : Type 0} (f g : X → Y) (t : Tree X) → Each (λ c. f c ≡ g c) t → mapped f t ≡ mapped g t
mapped_same f g (constant b) h = refl
mapped_same f g (condition c) h = ap condition h
mapped_same f g (And l r) h = ap₂ And (mapped_same f g l h.0) (mapped_same f g r h.1)
mapped_same f g (Or l r) h = ap₂ Or (mapped_same f g l h.0) (mapped_same f g r h.1)
mapped_same f g (Not t) h = ap Not (mapped_same f g t h)
