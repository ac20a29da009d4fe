-- Every number is the word of the tag that it is: so a tag may be held as its word.
use Rattle.std.specs.Prelude.{◌≡◌, ◌<◌, ℕ, ◌/◌, ◌%◌, ◌^◌, if◌then◌else◌, ◌==◌}
use Rattle.std.proofs.Common.{zero, suc, arith, refl}
use Rattle.tag_view.specs.Word.{tag_of, word_of}

-- the bit that a test of it gives
pub bit_back : (m : ℕ) → m < 2 → (if m == 1 then 1 else 0) ≡ m
bit_back zero h = refl
bit_back (suc zero) h = refl
bit_back (suc (suc m)) h = absurd (omega arith)

pub tag_back : (word : ℕ) → word_of (tag_of word) ≡ word
tag_back word =
    let e : (if word / 2 ^ 12 % 2 == 1 then 1 else 0) ≡ word / 2 ^ 12 % 2 = bit_back (word / 2 ^ 12 % 2) (omega arith) in
    rw e (omega arith)
