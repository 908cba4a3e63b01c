-- Conditions, over terms X, literals L and lists of literals S.
use Rattle.nodes.specs.declared.operators.PredicateOperator.{PredicateOperator}
use Rattle.nodes.specs.Operators.{inverse}

pub data Condition (X L S : Type 0) : Type 0 where
  unary : PredicateOperator → X → Condition X L S
  binary : PredicateOperator → X → L → Condition X L S
  among : PredicateOperator → X → S → Condition X L S

abbrev pub opposite : {X L S : Type 0} → Condition X L S → Condition X L S
opposite (unary o x) = unary (inverse o) x
opposite (binary o x l) = binary (inverse o) x l
opposite (among o x ls) = among (inverse o) x ls

-- the condition with its term and literals read as others
abbrev pub reading : {X L S X' L' S' : Type 0} → (X → X') → (L → L') → (S → S') → Condition X L S → Condition X' L' S'
reading term literal list (unary o x) = unary o (term x)
reading term literal list (binary o x l) = binary o (term x) (literal l)
reading term literal list (among o x ls) = among o (term x) (list ls)
