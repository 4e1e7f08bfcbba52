-- Private: how many pieces of a port may still be read.
use Rattle.std.specs.Prelude.{ℕ, ◌+◌, Bool, true, false}

-- how many pieces may still be read, where so many bytes may, and the end was met or not
abbrev pub turns_of : Bool → ℕ → ℕ
turns_of true left = left
turns_of false left = left + 1
