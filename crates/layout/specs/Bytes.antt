-- Numbers in a file, little-endian; a byte past the end reads as 0. Assumes nothing.
use Rattle.std.specs.Prelude.{ℕ, ◌+◌, ◌*◌, List, ℤ, slice_index}
use Rattle.std.proofs.Common.{to_z}
use Rattle.std.specs.Int.{w32}

unfoldable pub u16_at : List ℕ → ℕ → ℕ
u16_at b i = slice_index b i + 256 * slice_index b (i + 1)

unfoldable pub u32_at : List ℕ → ℕ → ℕ
u32_at b i = u16_at b i + 65536 * u16_at b (i + 2)

-- signed, in two's complement
unfoldable pub i32_at : List ℕ → ℕ → ℤ
i32_at b i = to_z w32 (u32_at b i)
