-- The order of records: `before x y` says that x stands strictly ahead of y. `IsStrictWeakOrder before`, of std, says that any two records compare: of two
-- at most one is before the other, and where x is not before y and y is not before z, x is not before z. Assumes nothing.
use Rattle.std.specs.Prelude.{◌≡◌, Bool, false}
use Rattle.std.specs.Ordering.{is_lt}
use Rattle.std.specs.declared.cmp.Ordering.{Ordering}

-- Of records with std's order the greater stands ahead, by what `cmp` answers. Lemma `ahead_ranks` of proofs/Greatest says that any two of them compare so.
abbrev pub ahead_by : {A : Type 0} → (A → A → Ordering) → A → A → Bool
ahead_by cmp x y = is_lt (cmp y x)

-- No two different records tie.
abbrev pub Apart : {A : Type 0} → (A → A → Bool) → Type 0
Apart {A} before = (x y : A) → before x y ≡ false → before y x ≡ false → x ≡ y
