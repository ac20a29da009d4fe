-- The numbers of a capture, in the writer's byte order.
use Rattle.std.specs.Prelude.{ℕ, List}
use Rattle.byteorder.specs.Endian.{big_number, little_number}
use Rattle.bench_pcapng.specs.declared.order.Order.{Order}
use Rattle.bench_pcapng.specs.declared.order.Order.TheVariants.{HighFirst, LowFirst}

-- the number in the first bytes, of which there are so many
unfoldable pub number_in : ℕ → Order → List ℕ → ℕ
number_in count HighFirst bytes = big_number count bytes
number_in count LowFirst bytes = little_number count bytes
