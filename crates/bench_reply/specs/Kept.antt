-- What is kept of a request that wants an answer, so that its reply can be judged.
use Rattle.std.specs.Prelude.{◌≡◌, ℕ, ◌-◌, ◌&&◌, Bool, true, false, not, nat_le, nat_lt}
use Rattle.managed_entity.specs.Class.{attributes_of}
use Rattle.bench_reply.specs.Replies.{Wanted, is_compared, is_own_byte}
use Rattle.bench_reply.specs.declared.compared.Compared.{Compared}
use Rattle.bench_reply.specs.declared.compared.Compared.TheVariants.{Everything, Nothing, Values}
use Rattle.bench_reply.specs.declared.expected.Expected.{Expected}

-- whether a byte is compared
abbrev pub compares : Compared → ℕ → Bool
compares Everything byte = true
compares Nothing byte = false
compares (Values class mask) byte = not (nat_le 3 byte && nat_lt byte 28 && is_own_byte mask 0 (attributes_of class) (byte - 3))

-- what is kept of a request and the model's reply to it
pub record IsExpected (modelled : Bool) (w : Wanted) (expected : Expected) : Type 0 where
  pub reply : expected.reply ≡ w.reply
  pub compared : (byte : ℕ) → compares expected.compared byte ≡ is_compared modelled w byte
