-- A list that keeps an element exactly when it passes against none kept before.
use Rattle.std.specs.Prelude.{ℕ, ◌+◌, ◌-◌, Bool, false, cond, ◌&&◌, ◌||◌, List, [], ◌∷◌, ◌++◌, length, take, drop, Some, None, Option, nat_le, nat_lt, slice_set}
use Rattle.lists.specs.declared.list.Offered.{Offered}
use Rattle.lists.specs.declared.list.Offered.TheVariants.{Kept, Dropped, Full}

-- x passes against one of the elements, each the earlier of the two
abbrev pub against : {X : Type 0} → (X → X → Bool) → List X → X → Bool
against p [] x = false
against p (y ∷ ys) x = p y x || against p ys x

-- what is kept anew of the elements offered, in their order, beside those held already
abbrev pub fresh : {X : Type 0} → (X → X → Bool) → List X → List X → List X
fresh p held [] = []
fresh p held (x ∷ xs) = cond (against p held x) (fresh p held xs) (x ∷ fresh p (held ++ (x ∷ [])) xs)

-- what a new list keeps of the elements offered
abbrev pub kept : {X : Type 0} → (X → X → Bool) → List X → List X
kept p xs = fresh p [] xs

-- a list lies in the cells of a table from one up to another
abbrev pub run : {X : Type 0} → List X → ℕ → ℕ → List X
run items start end = take (end - start) (drop start items)

-- the answer to one offer: an element that is to be kept asks for a cell after the list
abbrev pub offered : {X : Type 0} → (X → X → Bool) → List X → ℕ → ℕ → X → Offered
offered p items start end x = cond (against p (run items start end) x) Dropped (cond (nat_le start end && nat_lt end (length items)) Kept Full)

-- the table after that answer
abbrev pub stored : {X : Type 0} → Offered → List X → ℕ → X → List X
stored Kept items end x = slice_set items end x
stored Dropped items end x = items
stored Full items end x = items

-- the list's end after that answer
abbrev pub end_after : Offered → ℕ → ℕ
end_after Kept end = end + 1
end_after Dropped end = end
end_after Full end = end

-- what the list holds after that answer
abbrev pub held_after : {X : Type 0} → Offered → List X → X → List X
held_after Kept held x = held ++ (x ∷ [])
held_after Dropped held x = held
held_after Full held x = held

-- the table with the elements written from a cell on
abbrev pub placed : {X : Type 0} → List X → ℕ → List X → List X
placed items start xs = take start items ++ (xs ++ drop (start + length xs) items)

-- a new list is laid whole below a cell, or not at all: its end, and the table
abbrev pub laid_end : {X : Type 0} → List X → ℕ → ℕ → Option ℕ
laid_end new start room = cond (nat_le (start + length new) room) (Some (start + length new)) None

abbrev pub laid : {X : Type 0} → List X → List X → ℕ → ℕ → List X
laid new items start room = cond (nat_le (start + length new) room) (placed items start new) items
