-- One step: what a request is answered, and the state that it leaves (ITU-T G.988, 11.2 and annex A). Each action is one
-- definition over the attributes of a class. Refusals come in the order in which they are written.
use Rattle.std.specs.Prelude.{ℕ, ◌+◌, ◌*◌, not, ◌&&◌, List, ◌∷◌, ◌++◌, Option, Some, None, is_some, if◌then◌else◌, ◌==◌, nat_le, nat_lt, length, slice_index, drop, Result, Ok, Err}
use Rattle.std.specs.List.{concat}
use Rattle.byteorder.specs.Endian.{big_bytes, big_number}
use Rattle.omci_msg.specs.declared.Request.{Request}
use Rattle.omci_msg.specs.declared.Reply.{Reply}
use Rattle.omci_msg.specs.Replies.{reply_to}
use Rattle.omci_msg.specs.declared.Action.{Action}
use Rattle.omci_msg.specs.declared.Action.TheVariants.{Create, Delete, Set, Get, GetNext, MibUpload, MibUploadNext, MibReset, Other}
use Rattle.managed_entity.specs.declared.attribute.Attribute.{Attribute}
use Rattle.managed_entity.specs.declared.refusal.Refusal.{Refusal}
use Rattle.managed_entity.specs.declared.refusal.Refusal.TheVariants.{ProcessingError, NotSupported, ParameterError, UnknownEntity, UnknownInstance, InstanceExists}
use Rattle.managed_entity.specs.Class.{is_known, attributes_of, room_of}
use Rattle.managed_entity.specs.Mask.{names, mask_of}
use Rattle.managed_entity.specs.Instance.{Instance}
use Rattle.managed_entity.specs.Answer.{padded, success_code, success, left_by, told}
use Rattle.managed_entity.specs.Write.{created}
use Rattle.managed_entity.specs.Set.{set_instance}
use Rattle.managed_entity.specs.Get.{get_contents, returned_values}
use Rattle.mib_state.specs.Entities.{Entities, Latched, State, nothing, instances_of, with_instances, find, insert, remove, replace}

-- ---- Create

-- the instances of a class after Create
unfoldable pub create_in : List Attribute → ℕ → ℕ → List ℕ → List Instance → Result (List Instance) Refusal
create_in layout room n contents instances =
    if n == 65535 then Err ParameterError
    else (if is_some (find n instances) then Err InstanceExists
    else (if nat_le room (length instances) then Err ProcessingError
    else Ok (insert (created layout n contents) instances)))

-- ---- Delete

-- the instances of a class after Delete
unfoldable pub delete_in : ℕ → List Instance → Result (List Instance) Refusal
delete_in n instances = if is_some (find n instances) then Ok (remove n instances) else Err UnknownInstance

-- ---- Set

-- the instances with it in its place
abbrev pub replaced : List Instance → Result Instance Refusal → Result (List Instance) Refusal
replaced instances (Ok i) = Ok (replace i instances)
replaced instances (Err refusal) = Err refusal

abbrev pub set_found : List Attribute → ℕ → List ℕ → List Instance → Option Instance → Result (List Instance) Refusal
set_found layout mask bytes instances None = Err UnknownInstance
set_found layout mask bytes instances (Some i) = replaced instances (set_instance layout mask bytes i)

-- the instances of a class after Set
unfoldable pub set_in : List Attribute → ℕ → ℕ → List ℕ → List Instance → Result (List Instance) Refusal
set_in layout n mask bytes instances = set_found layout mask bytes instances (find n instances)

-- ---- Get

-- the answer to a Get in a class, by the instance that is found
abbrev pub get_found : List Attribute → ℕ → Option Instance → Result (List ℕ) Refusal
get_found layout mask None = Err UnknownInstance
get_found layout mask (Some i) = Ok (get_contents (length layout) mask (returned_values layout i.values i.entries))

unfoldable pub get : Entities → Request → Result (List ℕ) Refusal
get e q =
    if not (is_known q.class) then Err UnknownEntity
    else get_found (attributes_of q.class) (mask_of q.contents) (find q.instance (instances_of e q.class))

-- ---- Get next

-- the table that a Get latches: where it names attribute 6 of a held instance of class 171, that instance's entries
abbrev pub latched_of : Option Latched → Option Instance → Option Latched
latched_of latch None = latch
latched_of latch (Some i) = Some (record { instance = i.number; bytes = concat i.entries })

abbrev pub latched : State → Request → Option Latched
latched s q =
    if q.class == 171 && names (mask_of q.contents) 5 then latched_of s.latch (find q.instance s.entities.vlans)
    else s.latch

-- the mask of attribute 6 alone
abbrev pub table_mask : ℕ
table_mask = 0x0400

-- the sequence number of a Get next, from 0: the two bytes behind the mask
unfoldable pub sequence_of : List ℕ → ℕ
sequence_of contents = big_number 2 (drop 2 contents)

-- how many bytes of the latched table an answer holds
abbrev pub part_room : ℕ
part_room = 29

-- the answer that gives bytes, as many as it has room for
unfoldable pub part_contents : List ℕ → List ℕ
part_contents bytes = success_code ∷ big_bytes 2 table_mask ++ padded part_room bytes

-- the answer to a Get next of an instance and a sequence number, by what is latched
unfoldable pub part_of : Option Latched → ℕ → ℕ → Result (List ℕ) Refusal
part_of None n sequence = Err ParameterError
part_of (Some latch) n sequence =
    if latch.instance == n && nat_lt (part_room * sequence) (length latch.bytes)
    then Ok (part_contents (drop (part_room * sequence) latch.bytes)) else Err ParameterError

-- whether there is an instance of a class, or why there is none
abbrev pub held : Entities → ℕ → ℕ → Result (Unit {0}) Refusal
held e class n =
    if not (is_known class) then Err UnknownEntity
    else (if is_some (find n (instances_of e class)) then Ok tt else Err UnknownInstance)

-- the answer to a Get next of an instance that is held: only class 171 has a table, and only it may be named
abbrev pub get_next_held : State → Request → Result (Unit {0}) Refusal → Result (List ℕ) Refusal
get_next_held s q (Err refusal) = Err refusal
get_next_held s q (Ok there) =
    if q.class == 171 && mask_of q.contents == table_mask then part_of s.latch q.instance (sequence_of q.contents)
    else Err ParameterError

unfoldable pub get_next : State → Request → Result (List ℕ) Refusal
get_next s q = get_next_held s q (held s.entities q.class q.instance)

-- ---- what a change of a class leaves

-- 255 is followed by 1
abbrev pub next_sync : ℕ → ℕ
next_sync sync = if sync == 255 then 1 else sync + 1

-- the entities after a change of the instances of a class: the sync counts it, but a write of the sync itself
abbrev pub counted : Entities → ℕ → Result (List Instance) Refusal → Result Entities Refusal
counted e class (Ok instances) =
    Ok (if class == 2 then with_instances e class instances else record (with_instances e class instances) { sync = next_sync e.sync })
counted e class (Err refusal) = Err refusal

unfoldable pub create : Entities → Request → Result Entities Refusal
create e q =
    if not (is_known q.class) then Err UnknownEntity
    else (if q.class == 2 then Err NotSupported
    else counted e q.class (create_in (attributes_of q.class) (room_of q.class) q.instance q.contents (instances_of e q.class)))

unfoldable pub delete : Entities → Request → Result Entities Refusal
delete e q =
    if not (is_known q.class) then Err UnknownEntity
    else (if q.class == 2 then Err NotSupported
    else counted e q.class (delete_in q.instance (instances_of e q.class)))

unfoldable pub set : Entities → Request → Result Entities Refusal
set e q =
    if not (is_known q.class) then Err UnknownEntity
    else counted e q.class (set_in (attributes_of q.class) q.instance (mask_of q.contents) (drop 2 q.contents) (instances_of e q.class))

-- ---- the step

-- the answer to a change, or why it is refused
abbrev pub done : {A : Type 0} → Result A Refusal → Result (List ℕ) Refusal
done (Ok new) = Ok success
done (Err refusal) = Err refusal

-- the contents of the answer to an action, or why it is refused
abbrev pub answered : Action → State → Request → Result (List ℕ) Refusal
answered Create s q = done (create s.entities q)
answered Delete s q = done (delete s.entities q)
answered Set s q = done (set s.entities q)
answered Get s q = get s.entities q
answered GetNext s q = get_next s q
answered MibUpload s q = Err NotSupported
answered MibUploadNext s q = Err NotSupported
answered MibReset s q = Ok success
answered (Other code) s q = Err NotSupported

-- the entities that an action leaves; a refused one leaves those that there were
abbrev pub left : Action → Entities → Request → Entities
left Create e q = left_by e (create e q)
left Delete e q = left_by e (delete e q)
left Set e q = left_by e (set e q)
left Get e q = e
left GetNext e q = e
left MibUpload e q = e
left MibUploadNext e q = e
left MibReset e q = nothing
left (Other code) e q = e

-- the table that an action leaves latched; only a Get latches
abbrev pub latch_left : Action → State → Request → Option Latched
latch_left Create s q = s.latch
latch_left Delete s q = s.latch
latch_left Set s q = s.latch
latch_left Get s q = latched s q
latch_left GetNext s q = s.latch
latch_left MibUpload s q = s.latch
latch_left MibUploadNext s q = s.latch
latch_left MibReset s q = s.latch
latch_left (Other code) s q = s.latch

-- the state that an action leaves
abbrev pub state_left : Action → State → Request → State
state_left action s q = record { entities = left action s.entities q; latch = latch_left action s q }

-- the reply to a request, and the state that it leaves
abbrev pub step : State → Request → Reply × State
step s q = (reply_to q (told (answered q.action s q)), state_left q.action s q)

-- the result of a reply: the first byte of its contents
abbrev pub result_of : Reply → ℕ
result_of reply = slice_index reply.contents 0
