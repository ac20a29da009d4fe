-- The sizes of the answers to messages.
use Rattle.std.proofs.Common.{◌≡◌, ℕ, ◌+◌, ◌*◌, ◌/◌, ◌%◌, ◌<◌, ◌≤◌, true, false, List, [], ◌∷◌, ◌++◌, ap, sym, ◌∙◌, slice_index, slice_index_or, take, length, length-append, append_assoc, Ok, refl, arith, lit<}
use Rattle.std.specs.List.{flat_map}
use Rattle.std.proofs.lemmas.Grind.{flat_map-append}
use Rattle.std.proofs.lemmas.List.{append-nil, take_more}
use Rattle.tag_view.specs.Frame.{spelled}
use Rattle.tag_view.specs.Tag.{TagFields, tag_bytes}
use Rattle.std.proofs.lemmas.Bool.Decides.{nat_tests}
use Rattle.std.proofs.lemmas.Fmt.{decimal_digit}
use Rattle.std.specs.Fmt.{decimal}
use Rattle.frame_meaning.specs.Reason.{number_of_reason}
use Rattle.frame_meaning.specs.declared.reason.Reason.{Reason}
use Rattle.frame_meaning.specs.declared.reason.Reason.TheVariants as reasons
use Rattle.hex.specs.Hex.{encode_lower, encode_with, lower_digits}
use Rattle.omci_msg.specs.Fault.{number_of_fault}
use Rattle.omci_msg.specs.Message.{is_message_length, request_of}
use Rattle.omci_msg.specs.declared.fault.MsgFault.{MsgFault}
use Rattle.omci_msg.specs.declared.fault.MsgFault.TheVariants.{Length, Destination, NotRequest, NotReply, Device}
use Rattle.omci_msg.specs.declared.request.Request.{Request}

long_enough : (n : ℕ) → is_message_length n ≡ true → 44 ≤ n
long_enough n is = grind (arith, nat_tests)

-- bytes that ask something are as many as a message has
pub request_long : (bytes : List ℕ) (request : Request) → request_of bytes ≡ Ok request → 44 ≤ length bytes
unfolding request_of
request_long bytes request is =
    elim (is_message_length (length bytes)) as (λ b. is_message_length (length bytes) ≡ b → 44 ≤ length bytes) [
      | true ↦ λ long. long_enough (length bytes) long
      | false ↦ λ short. absurd (let bad = rw short at is in cc)
    ] refl

small_number : (fault : MsgFault) → number_of_fault fault < 10
small_number (Length n) = lit< tt
small_number Destination = lit< tt
small_number NotRequest = lit< tt
small_number NotReply = lit< tt
small_number (Device n) = lit< tt

-- the number of a fault is one digit
pub fault_digit : (fault : MsgFault) → decimal (number_of_fault fault) ≡ (48 + number_of_fault fault) ∷ []
fault_digit fault = decimal_digit (number_of_fault fault) (small_number fault)

small_reason : (reason : Reason) → number_of_reason reason < 10
small_reason reasons.Runt = lit< tt
small_reason reasons.CutTag = lit< tt
small_reason reasons.NoRule = lit< tt
small_reason reasons.RuleDiscard = lit< tt
small_reason reasons.NoMapper = lit< tt
small_reason reasons.NullPointer = lit< tt
small_reason reasons.NoInterwork = lit< tt
small_reason reasons.NoGem = lit< tt
small_reason reasons.Direction = lit< tt

-- the number of a reason is one digit
pub reason_digit : (reason : Reason) → decimal (number_of_reason reason) ≡ (48 + number_of_reason reason) ∷ []
reason_digit reason = decimal_digit (number_of_reason reason) (small_reason reason)

-- the digits of bytes are those of their parts
pub encode-append : (a b : List ℕ) → encode_lower (a ++ b) ≡ encode_lower a ++ encode_lower b
unfolding encode_with
encode-append [] b = refl
encode-append (x ∷ a) b = ap (λ digits. slice_index lower_digits (x / 16) ∷ slice_index lower_digits (x % 16) ∷ digits) (encode-append a b)

-- the digits of one tag more
pub tags_more : (tags : List TagFields) (i : ℕ) (tag : TagFields) → i < length tags → tag ≡ slice_index_or tags i tag
    → encode_lower (flat_map tag_bytes (take (i + 1) tags)) ≡ encode_lower (flat_map tag_bytes (take i tags)) ++ encode_lower (tag_bytes tag)
tags_more tags i tag within is =
    let more : take (i + 1) tags ≡ take i tags ++ tag ∷ [] = take_more tags i tag within ∙ ap (λ t. take i tags ++ t ∷ []) (sym is) in
    ap (λ t. encode_lower (flat_map tag_bytes t)) more
    ∙ ap encode_lower (flat_map-append tag_bytes (take i tags) (tag ∷ []) ∙ ap (λ bytes. flat_map tag_bytes (take i tags) ++ bytes) (append-nil (tag_bytes tag)))
    ∙ encode-append (flat_map tag_bytes (take i tags)) (tag_bytes tag)

-- the digits of a frame are those of its parts
pub frame_digits : (addresses : List ℕ) (tags : List TagFields) (rest : List ℕ)
    → encode_lower (spelled addresses tags rest) ≡ encode_lower addresses ++ (encode_lower (flat_map tag_bytes tags) ++ encode_lower rest)
frame_digits addresses tags rest =
    encode-append addresses (flat_map tag_bytes tags ++ rest) ∙ ap (λ digits. encode_lower addresses ++ digits) (encode-append (flat_map tag_bytes tags) rest)

-- four bytes a tag
length-tags : (tags : List TagFields) → length (flat_map tag_bytes tags) ≡ 4 * length tags
length-tags [] = omega arith
length-tags (tag ∷ tags) = omega (arith, length-append (tag_bytes tag) (flat_map tag_bytes tags), length-tags tags)

pub frame_length : (addresses : List ℕ) (tags : List TagFields) (rest : List ℕ) → length (spelled addresses tags rest) ≡ length addresses + 4 * length tags + length rest
frame_length addresses tags rest =
    omega (arith, length-append addresses (flat_map tag_bytes tags ++ rest), length-append (flat_map tag_bytes tags) rest, length-tags tags)

-- the line of a frame, part by part
pub line_parts : (old gem addresses tags rest : List ℕ)
    → old ++ 103 ∷ 32 ∷ [] ++ gem ++ 32 ∷ [] ++ addresses ++ tags ++ rest ++ 10 ∷ []
    ≡ old ++ (103 ∷ 32 ∷ (gem ++ 32 ∷ [] ++ (addresses ++ (tags ++ rest)) ++ 10 ∷ []))
line_parts old gem addresses tags rest = simp append_assoc
