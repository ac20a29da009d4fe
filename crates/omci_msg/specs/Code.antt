-- The message types that have an action of their own.
use Rattle.std.specs.Prelude.{ℕ, Bool, not, ◌&&◌, ◌||◌, ◌==◌, nat_lt}

-- one of the eight: Create, Delete, Set, Get, MIB upload, MIB upload next, MIB reset, Get next
abbrev pub is_named_code : ℕ → Bool
is_named_code n = n == 4 || n == 6 || n == 8 || n == 9 || n == 13 || n == 14 || n == 15 || n == 26

-- a type of five bits that is none of them
abbrev pub is_other_code : ℕ → Bool
is_other_code n = nat_lt n 32 && not (is_named_code n)
