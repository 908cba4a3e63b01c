-- A walk that nothing bars.
use Rattle.std.proofs.Common.{◌≡◌, ℕ, ◌<◌, true, List, length, None, Ok, Result, sym, ap, ◌∙◌, subst}
use Rattle.values.specs.declared.refusals.Reason.TheVariants as R
use Rattle.values.specs.declared.refusals.Refused.{Refused}
use Rattle.filters.specs.Meanings.{Meaning, walked}
use Rattle.nodes.specs.Tables.{nodes, filter_at}
use Rattle.nodes.specs.Filters.{Whole}
use Rattle.nodes.specs.Soundness.{fits, unsound, stands, used_of}
use Rattle.nodes.proofs.Order.{Fit, Fitting}
use Rattle.nodes.proofs.Found.{of_root}
use Rattle.columns.specs.declared.column.Column.{Column}
use Rattle.book.specs.Calls.{Tables, Setting, else, unless, at_place, granted, barred, no_filter}
use Rattle.book.proofs.Called.{else_none, unless_none, granted_none, checked, stands_free, free_whole}
use Rattle.walk.specs.declared.faults.Fault.{Fault}
use Rattle.walk.specs.Steps.{lent}
use Rattle.walk.specs.Tests.{Tested, content}
use Rattle.walk.specs.Visits.{visited, barred_walk, unless_barred, walk_of, filter_in, Tells, TellsWhatIsMeant}
use Rattle.walk.proofs.Readings.{lent_as_held, visited_alike}
use Rattle.walk.proofs.Told.{tells}

module _ (s : Setting Column) (b : Tables Column) (n : ℕ) where
  -- a filter that stands in sound tables
  pub record Stands : Type 0 where
    pub whole : Whole b.slots n
    pub low : n < b.used
    pub fit : Fitting (fits s.within (length s.text) (used_of b.literals b.stored)) b.slots b.used

  stands_there : None ≡ barred s b → true ≡ stands b.slots b.used n → Stands
  stands_there e f =
      let k = checked s b e in
      let free = stands_free b.slots b.used n k.sane (sym f) in
      record { whole = free_whole b.slots b.used n free; low = free.low; fit = k.fit }

  pub whole_there : None ≡ unsound s.within (length s.text) b.slots b.used b.literals b.stored → true ≡ stands b.slots b.used n → Whole b.slots n
  whole_there e f = (stands_there (ap (at_place R.UnsoundTables) e) f).whole

  module _ (room : ℕ) where
    unbarred : None ≡ barred_walk s b n room → Stands
    unbarred e =
        let d = else_none (barred s b) (else (no_filter b n) (unless _ R.WorkingTableTooShort 0)) e in
        stands_there d.0 (sym (unless_none (stands b.slots b.used n) R.NoFilter n (else_none (no_filter b n) (unless _ R.WorkingTableTooShort 0) d.1).0))

    module _ (u v : Unit {0}) (h : Ok u ≡ granted (barred_walk s b n room) v) where
      bar : None ≡ barred_walk s b n room
      bar = granted_none (barred_walk s b n room) v u h

      pub granted_whole : Whole b.slots n
      granted_whole = (unbarred bar).whole

      module _ {A : Type 0} (m : Meaning A Fault Tested) (places : List ℕ) (r : Result A Refused) (e : r ≡ visited m (lent places s.text b.literals) (filter_at b.slots n)) where
        as_held : r ≡ visited m (content places s.text b.literals) (filter_at b.slots n)
        as_held =
            let t = unbarred bar in
            let w = t.whole in
            e
            ∙ visited_alike m (lent places s.text b.literals) (content places s.text b.literals) (nodes b.slots) b.used
            (λ k c l f. lent_as_held s.within (length s.text) (used_of b.literals b.stored) places s.text b.literals c (subst (Fit (fits s.within (length s.text) (used_of b.literals b.stored))) f (t.fit k l)))
            (filter_at b.slots n) w.held w.sound (subst (λ k. k < b.used) (sym (of_root (nodes b.slots) n)) t.low)

        pub by_the_rules : r ≡ walk_of m places s b n room
        by_the_rules = as_held ∙ ap (λ o. unless_barred o (visited m (content places s.text b.literals) (filter_at b.slots n))) bar

        pub told : TellsWhatIsMeant m places s b n room r
        told i = subst (Tells (filter_at b.slots n) (walked m (filter_in places s b n))) (sym as_held) (tells m (content places s.text b.literals) (filter_at b.slots n))
