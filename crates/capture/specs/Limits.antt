-- The numbers that captures of both formats share.
use Rattle.std.specs.Prelude.{ℕ}

-- the most bytes of a frame that a record or a block stores
abbrev pub stored_limit : ℕ
stored_limit = 262144

-- the link type of Ethernet
abbrev pub ethernet_link : ℕ
ethernet_link = 1
