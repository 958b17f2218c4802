-- From which size on an evaluation takes memory.
use Rattle.std.specs.Prelude.{ℕ, nat_le, if◌then◌else◌}

-- the number of variables from which a split table serves better than the recursion, by the bytes of a base element
abbrev pub threshold : ℕ → ℕ
threshold bytes = if nat_le bytes 4 then 9 else 10
