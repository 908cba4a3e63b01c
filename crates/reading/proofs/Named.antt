-- Kinds by name.
use Rattle.std.proofs.Common.{◌≡◌, ℕ, false, List, ◌++◌, Some, None, codes, Decides, Option, refl, ap, ◌∙◌}
use Rattle.std.proofs.lemmas.Bool.{false≢true}
use Rattle.values.specs.declared.kinds.Kind.{Kind}
use Rattle.values.specs.declared.kinds.Kind.TheVariants as K
use Rattle.reading.specs.Writing.{Reads, Natural, kind_text, KindWord, FixedWord}

-- what lies between the brackets
pub fixed_length : (t r d : List ℕ) (n : ℕ) → t ≡ codes "fixed(" ++ r → r ≡ d ++ codes ")" → Natural 64 n d → KindWord (K.Fixed n) t
fixed_length t r d n e f w = (w.0, e ∙ ap (λ (x : List ℕ). codes "fixed(" ++ x) (f ∙ ap (λ (x : List ℕ). x ++ codes ")") w.1))

-- a name that is none of the thirteen is a fixed's
pub other_name : (t : List ℕ) (r : Option Kind)
    → Decides false (t ≡ kind_text K.Boolean) → Decides false (t ≡ kind_text K.Int) → Decides false (t ≡ kind_text K.Date) → Decides false (t ≡ kind_text K.Long)
    → Decides false (t ≡ kind_text K.Time) → Decides false (t ≡ kind_text K.Timestamp) → Decides false (t ≡ kind_text K.Timestamptz)
    → Decides false (t ≡ kind_text K.TimestampNs) → Decides false (t ≡ kind_text K.TimestamptzNs) → Decides false (t ≡ kind_text K.Float)
    → Decides false (t ≡ kind_text K.Double) → Decides false (t ≡ kind_text K.String) → Decides false (t ≡ kind_text K.Binary)
    → Reads FixedWord t r → Reads KindWord t r
other_name t (Some k) b i d l ti ts tz tn zn f du s bi h = rw h.1.0 h.1.1
other_name t None b i d l ti ts tz tn zn f du s bi h = none
  where
    none : (k : Kind) → KindWord k t → ⊥
    none K.Boolean w = false≢true (b.1 w.1)
    none K.Int w = false≢true (i.1 w.1)
    none K.Date w = false≢true (d.1 w.1)
    none K.Long w = false≢true (l.1 w.1)
    none K.Time w = false≢true (ti.1 w.1)
    none K.Timestamp w = false≢true (ts.1 w.1)
    none K.Timestamptz w = false≢true (tz.1 w.1)
    none K.TimestampNs w = false≢true (tn.1 w.1)
    none K.TimestamptzNs w = false≢true (zn.1 w.1)
    none K.Float w = false≢true (f.1 w.1)
    none K.Double w = false≢true (du.1 w.1)
    none K.String w = false≢true (s.1 w.1)
    none (K.Fixed n) w = h (K.Fixed n) (n, (refl, w))
    none K.Binary w = false≢true (bi.1 w.1)
