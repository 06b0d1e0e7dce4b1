-- Bytes that are put into a buffer of the caller, as many as there are, where there is room for all.
use Rattle.std.specs.Prelude.{◌≡◌, ℕ, ◌≤◌, List, ◌++◌, length, drop}

-- the bytes stand in front in a buffer that was `old`, where they have room, and their count is n
pub record HasPut (bytes old : List ℕ) (n : ℕ) (new : List ℕ) : Type 0 where
  pub count : n ≡ length bytes
  pub size : length new ≡ length old
  pub text : length bytes ≤ length old → new ≡ bytes ++ drop (length bytes) old
