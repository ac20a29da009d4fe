-- The front of a frame, which decides what becomes of it.
use Rattle.std.specs.Prelude.{◌≡◌, ℕ, List, length, take}

-- Bytes that are as many as a frame's, and begin as it does: with its addresses, two tags, a type, and the front of an IP header that
-- has the DSCP.
pub record IsHeadOf (frame head : List ℕ) : Type 0 where
  pub len : length head ≡ length frame
  pub front : take 24 head ≡ take 24 frame
