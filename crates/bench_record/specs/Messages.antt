-- The messages of an ONU's management channel in Ethernet frames, as a capture has them.
use Rattle.std.specs.Prelude.{ℕ, ◌==◌, ◌&&◌, Bool, List, Option, Some, None, if◌then◌else◌, nat_le, length, take, drop}
use Rattle.tag_view.specs.Frame.{type_at}
use Rattle.omci_msg.specs.Message.{acknowledges, type_of}
use Rattle.bench_history.specs.declared.event.Event.{Event}
use Rattle.bench_history.specs.declared.event.Event.TheVariants.{Sent, Replied}

-- the message behind the type 0x88B5: 48 bytes, or 44 where there are fewer; None where there are fewer than these, or the type is another
abbrev pub message_of : List ℕ → Option (List ℕ)
message_of frame =
    let behind = drop 14 frame in
    if nat_le 44 (length behind) && type_at 12 frame == 0x88B5 then Some (take (if nat_le 48 (length behind) then 48 else 44) behind) else None

-- whether a frame is of the management channel by its type
abbrev pub is_managing : List ℕ → Bool
is_managing frame = nat_le 14 (length frame) && type_at 12 frame == 0x88B5

-- a message with AK 0 was sent to the unit; one with AK 1 is its reply
abbrev pub event_of_message : List ℕ → Event
event_of_message message = if acknowledges (type_of message) then Replied message else Sent message
