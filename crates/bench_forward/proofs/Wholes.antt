-- What is written part by part is the whole.
use Rattle.std.proofs.Common.{◌≡◌, [], ◌+◌, ◌/◌, ◌%◌, ◌^◌, ◌++◌, ℕ, List, Option, Result, Ok, Err, length, take, refl, ap, ◌∙◌, arith, append_assoc, length-append}
use Rattle.std.specs.Prelude.{OnErr, replicate}
use Rattle.std.specs.Io.KnownBytes.{Appends}
use Rattle.std.proofs.KnownBytes.{Appends-nil, Appends-trans}
use Rattle.std.proofs.Math.Seq.{take-append-add}
use Rattle.std.proofs.lemmas.List.{length-replicate, take_all, take-append-le}
use Rattle.byteorder.specs.Endian.{little_bytes}
use Rattle.std.specs.List.{flat_map}
use Rattle.tag_view.specs.Frame.{Reading, frame_bytes}
use Rattle.tag_view.specs.Tag.{tag_bytes}
use Rattle.text_writing.specs.Written.{AppendsPart}
use Rattle.bench_forward.specs.Blocks.{block, option, packet_block, padding}
use Rattle.bench_forward.specs.Outcome.{AppendsPast}
use Rattle.bench_forward.specs.Parts.{packet_end, packet_front, packet_length}

-- ---- known bytes

-- a part behind bytes
pub part_behind : (a b c : Option (List ℕ)) (bytes more : List ℕ) → Appends a b bytes → AppendsPart b c more → AppendsPart a c (bytes ++ more)
part_behind a b c bytes more first part =
    (length bytes + part.0, simp length-append (omega (arith, part.1)), rw (take-append-add bytes more part.0) (Appends-trans a b c bytes (take part.0 more) first part.2))

-- and so it is all of these bytes, and more
pub past_behind : (a b c : Option (List ℕ)) (bytes more : List ℕ) → Appends a b bytes → AppendsPart b c more → AppendsPast a c bytes (bytes ++ more)
past_behind a b c bytes more first part = (
  length bytes + part.0,
  omega arith,
  simp length-append (omega (arith, part.1)),
  rw (take-append-add bytes more part.0) (Appends-trans a b c bytes (take part.0 more) first part.2),
)

-- a part of the first of two
pub part_before : (a b : Option (List ℕ)) (bytes more : List ℕ) → AppendsPart a b bytes → AppendsPart a b (bytes ++ more)
part_before a b bytes more part =
    (part.0, simp length-append (omega (arith, part.1)), rw (take-append-le part.0 bytes more part.1) part.2)

-- nothing is a part, and so is all
pub no_part : (a : Option (List ℕ)) (bytes : List ℕ) → AppendsPart a a bytes
no_part a bytes = (0, omega arith, Appends-nil a)

pub all_part : (a b : Option (List ℕ)) (bytes : List ℕ) → Appends a b bytes → AppendsPart a b bytes
all_part a b bytes whole = (length bytes, omega arith, rw (take_all (length bytes) bytes (omega arith)) whole)

-- what holds anyway holds of a fault
pub on_err : {A E X : Type 0} (r : Result A E) → X → OnErr r X
on_err (Ok a) x = tt
on_err (Err e) x = x

-- ---- packets

-- a block whose length is known
block_as : (kind total : ℕ) (body : List ℕ) → length body + 12 ≡ total → block kind body ≡ little_bytes 4 kind ++ little_bytes 4 total ++ body ++ little_bytes 4 total
unfolding block
block_as kind total body is = rw is refl

-- how long an option is
option_length : (code : ℕ) (value : List ℕ) → length (option code value) ≡ 4 + length value + padding (length value)
unfolding option
option_length code value =
    let zeros : List ℕ = replicate (padding (length value)) 0 in
    omega (arith, length-append value zeros, length-replicate {A = ℕ} (padding (length value)) 0)

-- five parts in front of one, grouped otherwise
grouped : (front bytes zeros first second behind : List ℕ)
    → (front ++ (bytes ++ zeros) ++ first ++ second) ++ behind ≡ front ++ (bytes ++ (zeros ++ first ++ second ++ behind))
grouped front bytes zeros first second behind = simp append_assoc

-- the block of a packet is its front, its bytes and its end
pub packet_parts : (interface time original : ℕ) (bytes comment : List ℕ)
    → packet_block interface time original bytes comment
    ≡ packet_front interface time (length bytes) original (length comment) ++ (bytes ++ packet_end (length bytes) comment)
unfolding packet_block packet_front packet_end
packet_parts interface time original bytes comment =
    let size = length bytes in
    let total = packet_length size (length comment) in
    let zeros : List ℕ = replicate (padding size) 0 in
    let fields = little_bytes 4 interface ++ little_bytes 4 (time / 2 ^ 32) ++ little_bytes 4 (time % 2 ^ 32) ++ little_bytes 4 size ++ little_bytes 4 original in
    let first = option 1 comment in
    let second = option 0 [] in
    let len : length (fields ++ (bytes ++ zeros) ++ first ++ second) + 12 ≡ total =
    omega (
      arith,
      length-append (fields ++ (bytes ++ zeros) ++ first) second,
      length-append (fields ++ (bytes ++ zeros)) first,
      length-append bytes zeros,
      length-replicate {A = ℕ} (padding size) 0,
      option_length 1 comment,
      option_length 0 [],
    ) in
    block_as 6 total (fields ++ (bytes ++ zeros) ++ first ++ second) len
    ∙ ap (λ (behind : List ℕ). little_bytes 4 6 ++ little_bytes 4 total ++ behind) (grouped fields bytes zeros first second (little_bytes 4 total))

-- and so it is where the frame's addresses and tags stand with the front
pub packet_whole : (interface time len short : ℕ) (frame : Reading) (comment text head rest end : List ℕ) → len ≡ length (frame_bytes frame)
    → short ≡ length comment → text ≡ comment → head ≡ packet_front interface time len len short ++ frame.addresses ++ flat_map tag_bytes frame.tags
    → rest ≡ frame.rest → end ≡ packet_end len text
    → head ++ (rest ++ end) ≡ packet_block interface time (length (frame_bytes frame)) (frame_bytes frame) comment
packet_whole interface time len short frame comment text head rest end long brief texts front same ends =
    let size = length (frame_bytes frame) in
    rw (front, same, ends, long, brief, texts, packet_parts interface time size (frame_bytes frame) comment)
    (regroup (packet_front interface time size size (length comment)) frame.addresses (flat_map tag_bytes frame.tags) frame.rest (packet_end size comment))
  where
    regroup : (a b c d e : List ℕ) → (a ++ b ++ c) ++ (d ++ e) ≡ a ++ ((b ++ (c ++ d)) ++ e)
    regroup a b c d e = simp append_assoc

-- likewise where the bytes are written as they are
pub bytes_whole : (interface time original len short : ℕ) (bytes comment text front end : List ℕ) → len ≡ length bytes → short ≡ length comment
    → text ≡ comment → front ≡ packet_front interface time len original short → end ≡ packet_end len text
    → front ++ (bytes ++ end) ≡ packet_block interface time original bytes comment
bytes_whole interface time original len short bytes comment text front end long brief texts fronts ends =
    rw (fronts, ends, long, brief, texts, packet_parts interface time original bytes comment) refl
