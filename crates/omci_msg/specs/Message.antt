-- Baseline messages (ITU-T G.988, clause 11.2): what a list of bytes asks or answers, and how a
-- request and a reply are spelled. Bytes are counted from 0, and bits from the lowest.
use Rattle.std.specs.Prelude.{◌≡◌, ◌<◌, ◌≤◌, ℕ, ◌+◌, ◌/◌, ◌%◌, ◌^◌, Bool, true, false, not, ◌&&◌, ◌||◌, List, [], ◌∷◌, ◌++◌, Option, Some, None, option_map, unwrap_or, Result, Ok, Err, if◌then◌else◌, ◌==◌, length, take, drop, slice_index, refl}
use Rattle.byteorder.specs.Endian.{big_number, big_bytes}
use Rattle.omci_msg.specs.Code.{is_other_code}
use Rattle.omci_msg.specs.declared.action.Action.{Action}
use Rattle.omci_msg.specs.declared.action.Action.TheVariants.{Create, Delete, Set, Get, GetNext, MibUpload, MibUploadNext, MibReset, Other}
use Rattle.omci_msg.specs.declared.request.Request.{Request}
use Rattle.omci_msg.specs.declared.reply.Reply.{Reply}
use Rattle.omci_msg.specs.declared.fault.MsgFault.{MsgFault}
use Rattle.omci_msg.specs.declared.fault.MsgFault.TheVariants.{Length, Destination, NotRequest, NotReply, Device}

-- ---- actions

-- the message type of an action
abbrev pub code_of : Action → ℕ
code_of Create = 4
code_of Delete = 6
code_of Set = 8
code_of Get = 9
code_of MibUpload = 13
code_of MibUploadNext = 14
code_of MibReset = 15
code_of GetNext = 26
code_of (Other other) = other.code

-- the action of a type of five bits that is none of the eight; the flag is whether it is one
abbrev pub other_action : (n : ℕ) (other : Bool) → is_other_code n ≡ other → Option Action
other_action n true is_other = Some (Other (record { code = n; is_other = is_other }))
other_action n false _ = None

-- the action of a message type; there is none from 32 on
unfoldable pub action_of : ℕ → Option Action
action_of n =
    if n == 4 then Some Create
    else (if n == 6 then Some Delete
    else (if n == 8 then Some Set
    else (if n == 9 then Some Get
    else (if n == 13 then Some MibUpload
    else (if n == 14 then Some MibUploadNext
    else (if n == 15 then Some MibReset
    else (if n == 26 then Some GetNext
    else other_action n (is_other_code n) refl)))))))

-- actions are the numbers under 32
pub record ActionsAreCodes : Type 0 where
  pub code_of-action_of : (n : ℕ) → n < 32 → option_map code_of (action_of n) ≡ Some n
  pub action_of-code_of : (a : Action) → action_of (code_of a) ≡ Some a
  pub none_above : (n : ℕ) → 32 ≤ n → action_of n ≡ None

-- ---- the byte of the message type

-- whether the bit at a place is set
abbrev pub is_bit_set : ℕ → ℕ → Bool
is_bit_set byte k = byte / 2 ^ k % 2 == 1

-- the destination bit
abbrev pub is_for_another : ℕ → Bool
is_for_another kind = is_bit_set kind 7

-- AR: an answer is asked for
abbrev pub asks_answer : ℕ → Bool
asks_answer kind = is_bit_set kind 6

-- AK: this answers
abbrev pub acknowledges : ℕ → Bool
acknowledges kind = is_bit_set kind 5

-- the type of a request: AK 0
abbrev pub is_request : ℕ → Bool
is_request kind = not (acknowledges kind)

-- the type of a reply: AR 0, AK 1
abbrev pub is_reply : ℕ → Bool
is_reply kind = not (asks_answer kind) && acknowledges kind

-- The action of the low five bits. Each number of five bits has one, so the default is never taken.
abbrev pub action_in : ℕ → Action
action_in kind = unwrap_or (action_of (kind % 32)) Create

-- ---- reading

-- with the trailer, or without its last four bytes
abbrev pub is_message_length : ℕ → Bool
is_message_length n = n == 48 || n == 44

-- the number in the two bytes from a place
abbrev pub number_at : ℕ → List ℕ → ℕ
number_at place bytes = big_number 2 (drop place bytes)

-- the message type
abbrev pub type_of : List ℕ → ℕ
type_of bytes = slice_index bytes 2

-- the device identifier
abbrev pub device_of : List ℕ → ℕ
device_of bytes = slice_index bytes 3

abbrev pub contents_of : List ℕ → List ℕ
contents_of bytes = take 32 (drop 8 bytes)

-- the fields of a request: identifier, type, class, instance, contents; the trailer isn't looked at
abbrev pub request_fields : List ℕ → Request
request_fields bytes = record {
  tci = number_at 0 bytes;
  action = action_in (type_of bytes);
  wants_answer = asks_answer (type_of bytes);
  class = number_at 4 bytes;
  instance = number_at 6 bytes;
  contents = contents_of bytes;
}

-- the same fields of a reply
abbrev pub reply_fields : List ℕ → Reply
reply_fields bytes = record {
  tci = number_at 0 bytes;
  action = action_in (type_of bytes);
  class = number_at 4 bytes;
  instance = number_at 6 bytes;
  contents = contents_of bytes;
}

-- the message type, of as many bytes as a message has that are for this end of the line
abbrev pub type_for_this_end : List ℕ → Result ℕ MsgFault
type_for_this_end bytes =
    if not (is_message_length (length bytes)) then Err (Length (length bytes))
    else (if is_for_another (type_of bytes) then Err Destination else Ok (type_of bytes))

-- what the fields say of a baseline message whose type is expected, or the first fault of the bytes
abbrev pub read_as : {A : Type 0} → (ℕ → Bool) → MsgFault → (List ℕ → A) → List ℕ → Result A MsgFault
read_as is_expected unexpected fields bytes =
    if not (is_message_length (length bytes)) then Err (Length (length bytes))
    else (if is_for_another (type_of bytes) then Err Destination
    else (if not (is_expected (type_of bytes)) then Err unexpected
    else (if not (device_of bytes == 0x0a) then Err (Device (device_of bytes))
    else Ok (fields bytes))))

-- what the bytes ask, or the first fault that they have
unfoldable pub request_of : List ℕ → Result Request MsgFault
request_of bytes = read_as is_request NotRequest request_fields bytes

-- what the bytes answer, or the first fault that they have
unfoldable pub reply_of : List ℕ → Result Reply MsgFault
reply_of bytes = read_as is_reply NotReply reply_fields bytes

-- ---- writing

-- two zero bytes, the number 40 of the bytes before the trailer, and four zero bytes for the line's checksum
abbrev pub trailer : List ℕ
trailer = 0 ∷ 0 ∷ 0 ∷ 0x28 ∷ 0 ∷ 0 ∷ 0 ∷ 0 ∷ []

-- the bytes of a baseline message: identifier, type, device, class, instance, contents, trailer
abbrev pub spelling : ℕ → ℕ → ℕ → ℕ → List ℕ → List ℕ
spelling tci kind class instance contents =
    big_bytes 2 tci ++ kind ∷ 0x0a ∷ [] ++ big_bytes 2 class ++ big_bytes 2 instance ++ contents ++ trailer

-- the message type of a request: AR where an answer is wanted, AK 0
abbrev pub request_type : Request → ℕ
request_type request = (if request.wants_answer then 0x40 else 0) + code_of request.action

-- the message type of a reply: AR 0, AK 1
abbrev pub reply_type : Reply → ℕ
reply_type reply = 0x20 + code_of reply.action

-- the one spelling of a request
unfoldable pub request_spelling : Request → List ℕ
request_spelling request =
    spelling request.tci (request_type request) request.class request.instance request.contents

-- the one spelling of a reply
unfoldable pub reply_spelling : Reply → List ℕ
reply_spelling reply = spelling reply.tci (reply_type reply) reply.class reply.instance reply.contents

-- ---- what is written is read

-- the sizes that the types of a request and of a reply keep
pub record FieldsFit (tci class instance : ℕ) (contents : List ℕ) : Type 0 where
  pub tci_fits : tci < 2 ^ 16
  pub class_fits : class < 2 ^ 16
  pub instance_fits : instance < 2 ^ 16
  pub contents_whole : length contents ≡ 32

-- what a request or a reply is spelled as is read as it
pub record SpellingsAreRead : Type 0 where
  pub request : (q : Request) → FieldsFit q.tci q.class q.instance q.contents → request_of (request_spelling q) ≡ Ok q
  pub reply : (r : Reply) → FieldsFit r.tci r.class r.instance r.contents → reply_of (reply_spelling r) ≡ Ok r
