-- Worked examples, computed.
use Rattle.std.proofs.Common.{◌≡◌, ℕ, List, [], ◌∷◌, ◌++◌, Ok, Err, true, false, refl, take}
use Rattle.std.specs.Prelude.{replicate}
use Rattle.omci_msg.specs.declared.request.Request.{Request}
use Rattle.omci_msg.specs.declared.reply.Reply.{Reply}
use Rattle.omci_msg.specs.declared.action.Action.TheVariants.{Create}
use Rattle.omci_msg.specs.declared.fault.MsgFault.TheVariants.{Length, Destination, NotRequest, NotReply, Device}
use Rattle.omci_msg.specs.Message.{request_of, request_spelling, reply_of, reply_spelling, action_of, trailer}

-- a message of this type and device: identifier 1, class 268, instance 0x0401, port id 1024, direction 3
message : ℕ → ℕ → List ℕ
message kind device = 0 ∷ 1 ∷ kind ∷ device ∷ 1 ∷ 12 ∷ 4 ∷ 1 ∷ 4 ∷ 0 ∷ 0x80 ∷ 1 ∷ 3 ∷ [] ++ replicate 27 0 ++ trailer

create : Request
create = record { tci = 1; action = Create; wants_answer = true; class = 268; instance = 0x0401; contents = 4 ∷ 0 ∷ 0x80 ∷ 1 ∷ 3 ∷ [] ++ replicate 27 0 }

create_read : request_of (message 0x44 10) ≡ Ok create
unfolding request_of action_of message create
create_read = refl

short_read : request_of (take 44 (message 0x44 10)) ≡ Ok create
unfolding request_of action_of message create
short_read = refl

unanswered_read : request_of (message 0x04 10) ≡ Ok (record create { wants_answer = false })
unfolding request_of action_of message create
unanswered_read = refl

cut : request_of (take 47 (message 0x44 10)) ≡ Err (Length 47)
unfolding request_of message
cut = refl

other_device : request_of (message 0x44 0x0b) ≡ Err (Device 11)
unfolding request_of message
other_device = refl

answer : request_of (message 0x24 10) ≡ Err NotRequest
unfolding request_of message
answer = refl

for_another : request_of (message 0xc4 0x0b) ≡ Err Destination
unfolding request_of message
for_another = refl

create_written : request_spelling create ≡ message 0x44 10
unfolding request_spelling message create
create_written = refl

unanswered_written : request_spelling (record create { wants_answer = false }) ≡ message 0x04 10
unfolding request_spelling message create
unanswered_written = refl

-- ---- replies

-- the bytes of an answer to it, with result 0
answered : ℕ → ℕ → List ℕ
answered kind device = 0 ∷ 1 ∷ kind ∷ device ∷ 1 ∷ 12 ∷ 4 ∷ 1 ∷ [] ++ replicate 32 0 ++ 0 ∷ 0 ∷ 0 ∷ 0x28 ∷ 0 ∷ 0 ∷ 0 ∷ 0 ∷ []

created : Reply
created = record { tci = 1; action = Create; class = 268; instance = 0x0401; contents = replicate 32 0 }

created_written : reply_spelling created ≡ answered 0x24 10
unfolding reply_spelling created answered
created_written = refl

created_read : reply_of (answered 0x24 10) ≡ Ok created
unfolding reply_of action_of created answered
created_read = refl

short_reply_read : reply_of (take 44 (answered 0x24 10)) ≡ Ok created
unfolding reply_of action_of created answered
short_reply_read = refl

cut_reply : reply_of (take 43 (answered 0x24 10)) ≡ Err (Length 43)
unfolding reply_of answered
cut_reply = refl

reply_for_another : reply_of (answered 0xe4 0x0b) ≡ Err Destination
unfolding reply_of answered
reply_for_another = refl

-- a request; an answer that asks for one; neither
no_reply : reply_of (message 0x44 10) ≡ Err NotReply
unfolding reply_of message
no_reply = refl

both_bits : reply_of (answered 0x64 0x0b) ≡ Err NotReply
unfolding reply_of answered
both_bits = refl

neither_bit : reply_of (answered 0x04 10) ≡ Err NotReply
unfolding reply_of answered
neither_bit = refl

reply_of_other_device : reply_of (answered 0x24 0x0b) ≡ Err (Device 11)
unfolding reply_of answered
reply_of_other_device = refl
