-- The laws of conversion.
use Rattle.std.proofs.Common.{◌≡◌, ℕ, Bool, true, false, cond, ◌⊎◌, List, ℤ, pos, negsuc, ◌≤ℤ◌, ◌<ℤ◌, Ok, Err, Result, sym, refl, ap, ◌∙◌, subst, inl, inr, arith}
use lib.Signed.{lt_z}
use Rattle.std.proofs.lemmas.Int.{ints}
use Rattle.values.specs.declared.kinds.Kind.{Kind}
use Rattle.values.specs.declared.kinds.Kind.TheVariants as K
use Rattle.values.specs.Kinds.{same_kind}
use Rattle.values.specs.Contents.{int, long, string, Content, number, bytes, above_max, below_min, Datum}
use Rattle.values.specs.Kept.{well_kept_datum}
use Rattle.values.proofs.KindsTold.{one_kind, kind_itself}
use Rattle.conversion.specs.declared.convert.Misfit.{Misfit}
use Rattle.conversion.specs.declared.convert.Misfit.TheVariants.{NotConvertible}
use Rattle.conversion.specs.Table.{Rule, stays, as_is, narrows, stamps, unread, table, kept, narrowed, micros, stamped, stamp_at, apply, by_content, converted}
use Rattle.conversion.specs.Laws.{datum, Extreme, Floored, Narrowed, CountsNanos, CountsMicros, Conversion}

-- ---- what is kept

given : (d m : Datum) → ◌≡◌ {A = Result Datum Misfit} (Ok d) (Ok m) → d ≡ m
given d m h = cc

kept_gives : (d m : Datum) (k : Kind) → kept d k ≡ Ok m → (d ≡ m) × (d.kind ≡ k)
kept_gives d m k h = go (same_kind d.kind k) refl h
  where
    go : (b : Bool) → b ≡ same_kind d.kind k → cond b (Ok d) (Err NotConvertible) ≡ Ok m → (d ≡ m) × (d.kind ≡ k)
    go true e g = (cc, one_kind d.kind k (sym e))
    go false e g = cc

kept_own : (d : Datum) → kept d d.kind ≡ Ok d
kept_own d = ap (λ (b : Bool). cond b (Ok d) (Err NotConvertible)) (kind_itself d.kind)

-- ---- the kind that comes out

kept-kind : (d m : Datum) (k : Kind) → kept d k ≡ Ok m → m.kind ≡ k
kept-kind d m k h = let w = kept_gives d m k h in sym (ap (λ (x : Datum). x.kind) w.0) ∙ w.1

stamp_kind : (r : Result ℤ Misfit) (m : Datum) (k : Kind) → stamp_at k r ≡ Ok m → m.kind ≡ k
stamp_kind (Ok n) m k h = cc
stamp_kind (Err e) m k h = cc

apply-kind : (r : Rule) (d m : Datum) (n : ℤ) (k : Kind) → apply r d n k ≡ Ok m → m.kind ≡ k
apply-kind stays d m n k h = kept-kind d m k h
apply-kind (as_is s) d m n k h = cc
apply-kind narrows d m n k h = cc
apply-kind stamps d m n k h = stamp_kind (stamped d.kind n) m k h
apply-kind unread d m n k h = cc

-- ---- what comes out is kept as the column's kind says

abbrev Sound : Datum → Type 0
Sound m = (well_kept_datum m ≡ true) ⊎ Extreme m.content

-- the column's kind keeps what the rule makes
abbrev Suits : Rule → Kind → Type 0
Suits stays k = Unit {0}
Suits (as_is s) k = (n : ℤ) → well_kept_datum (datum k (number s n)) ≡ true
Suits narrows k = (n : ℤ) → well_kept_datum (datum k (number int n)) ≡ true
Suits stamps k = (n : ℤ) → well_kept_datum (datum k (number long n)) ≡ true
Suits unread k = Unit {0}

table_suits : (k : Kind) → Suits (table k).of_int k × Suits (table k).of_long k × Suits (table k).of_string k
table_suits K.Int = (λ n. refl, λ n. refl, tt)
table_suits K.Date = (λ n. refl, tt, tt)
table_suits K.Long = (λ n. refl, tt, tt)
table_suits K.Timestamp = (tt, λ n. refl, tt)
table_suits K.Timestamptz = (tt, λ n. refl, tt)
table_suits k = (tt, tt, tt)

kept-sound : (d m : Datum) (k : Kind) → well_kept_datum d ≡ true → kept d k ≡ Ok m → Sound m
kept-sound d m k w h = inl (subst (λ (x : Datum). well_kept_datum x ≡ true) (kept_gives d m k h).0 w)

narrowed-sound : (k : Kind) (n : ℤ) → well_kept_datum (datum k (number int n)) ≡ true → Sound (datum k (narrowed n))
narrowed-sound k n w = go (lt_z (pos 2147483647) n) (lt_z n (negsuc 2147483647))
  where
    go : (a b : Bool) → Sound (datum k (cond a above_max (cond b below_min (number int n))))
    go true b = inr (inl refl)
    go false true = inr (inr refl)
    go false false = inl w

stamp_sound : (r : Result ℤ Misfit) (m : Datum) (k : Kind) → Suits stamps k → stamp_at k r ≡ Ok m → Sound m
stamp_sound (Ok n) m k s h = inl (subst (λ (x : Datum). well_kept_datum x ≡ true) (given (datum k (number long n)) m h) (s n))
stamp_sound (Err e) m k s h = cc

apply-sound : (r : Rule) (d m : Datum) (n : ℤ) (k : Kind) → Suits r k → well_kept_datum d ≡ true → apply r d n k ≡ Ok m → Sound m
apply-sound stays d m n k s w h = kept-sound d m k w h
apply-sound (as_is c) d m n k s w h = inl (subst (λ (x : Datum). well_kept_datum x ≡ true) (given (datum k (number c n)) m h) (s n))
apply-sound narrows d m n k s w h = subst Sound (given (datum k (narrowed n)) m h) (narrowed-sound k n (s n))
apply-sound stamps d m n k s w h = stamp_sound (stamped d.kind n) m k s h
apply-sound unread d m n k s w h = cc

-- ---- the laws, by content

kind-after : (c : Content) (d m : Datum) (k : Kind) → by_content c d k ≡ Ok m → m.kind ≡ k
kind-after (number int n) d m k h = apply-kind (table k).of_int d m n k h
kind-after (number long n) d m k h = apply-kind (table k).of_long d m n k h
kind-after (bytes string b) d m k h = apply-kind (table k).of_string d m (pos 0) k h
kind-after c d m k h = kept-kind d m k h

sound-after : (c : Content) (d m : Datum) (k : Kind) → well_kept_datum d ≡ true → by_content c d k ≡ Ok m → Sound m
sound-after (number int n) d m k w h = apply-sound (table k).of_int d m n k (table_suits k).0 w h
sound-after (number long n) d m k w h = apply-sound (table k).of_long d m n k (table_suits k).1 w h
sound-after (bytes string b) d m k w h = apply-sound (table k).of_string d m (pos 0) k (table_suits k).2 w h
sound-after c d m k w h = kept-sound d m k w h

int_own : (k : Kind) (n : ℤ) → well_kept_datum (datum k (number int n)) ≡ true → converted (datum k (number int n)) k ≡ Ok (datum k (number int n))
int_own K.Int n h = refl
int_own K.Date n h = refl
int_own K.Long n h = cc
int_own k n h = kept_own (datum k (number int n))

long_own : (k : Kind) (n : ℤ) → well_kept_datum (datum k (number long n)) ≡ true → converted (datum k (number long n)) k ≡ Ok (datum k (number long n))
long_own K.Int n h = cc
long_own K.Timestamp n h = refl
long_own K.Timestamptz n h = refl
long_own k n h = kept_own (datum k (number long n))

string_own : (k : Kind) (b : List ℕ) → well_kept_datum (datum k (bytes string b)) ≡ true → converted (datum k (bytes string b)) k ≡ Ok (datum k (bytes string b))
string_own K.Boolean b h = cc
string_own K.Int b h = cc
string_own K.Long b h = cc
string_own K.Timestamp b h = cc
string_own K.Timestamptz b h = cc
string_own k b h = kept_own (datum k (bytes string b))

own : (k : Kind) (c : Content) → well_kept_datum (datum k c) ≡ true → converted (datum k c) k ≡ Ok (datum k c)
own k (number int n) h = int_own k n h
own k (number long n) h = long_own k n h
own k (bytes string b) h = string_own k b h
own k c h = kept_own (datum k c)

-- ---- numbers

narrow_facts : (n : ℤ) → Narrowed n (narrowed n)
narrow_facts n =
    record {
      inside = λ p q. inside_facts p q;
      beyond = λ p. beyond_facts p;
      before = λ p. before_facts p;
    }
  where
    inside_facts : negsuc 2147483647 ≤ℤ n → n ≤ℤ pos 2147483647 → narrowed n ≡ number int n
    inside_facts p q = grind (arith, ints)

    beyond_facts : pos 2147483647 <ℤ n → narrowed n ≡ above_max
    beyond_facts p = grind (arith, ints)

    before_facts : n <ℤ negsuc 2147483647 → narrowed n ≡ below_min
    before_facts p = grind (arith, ints)

floored : (n : ℤ) → Floored n (micros n)
floored (pos n) = record { not_above = omega (arith, ints); greatest = omega (arith, ints) }
floored (negsuc n) = record { not_above = omega (arith, ints); greatest = omega (arith, ints) }

-- whatever the two kinds, nanoseconds are divided
divided : (from to : Kind) (n : ℤ) → CountsNanos from → CountsMicros to → converted (datum from (number long n)) to ≡ Ok (datum to (number long (micros n)))
divided from to n (inl f) (inl t) = cc
divided from to n (inl f) (inr t) = cc
divided from to n (inr f) (inl t) = cc
divided from to n (inr f) (inr t) = cc

pub lawful : Conversion
lawful =
    record {
      has_the_columns_kind = λ d m k h. kind-after d.content d m k h;
      stays_well_kept = λ d m k w h. sound-after d.content d m k w h;
      own_kind = λ d h. own d.kind d.content h;
      narrows = λ k n. (narrowed n, refl, narrow_facts n);
      rounds_down = λ from to n f t. (micros n, divided from to n f t, floored n);
    }
