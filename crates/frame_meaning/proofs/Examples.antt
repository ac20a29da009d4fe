-- Worked examples, computed.
use Rattle.std.proofs.Common.{◌≡◌, ℕ, List, [], ◌∷◌, ◌++◌, refl, true}
use Rattle.tag_view.specs.Tag.{TagFields}
use Rattle.tag_view.specs.Frame.{fault_of, frame_of}
use Rattle.omci_msg.specs.declared.Request.{Request}
use Rattle.omci_msg.specs.declared.Action.{Action}
use Rattle.omci_msg.specs.declared.Action.TheVariants.{Create, Delete}
use Rattle.mib_state.specs.Entities.{Entities, nothing}
use Rattle.managed_entity.specs.Answer.{padded}
use Rattle.mib_state.specs.Step.{left, create, create_in, delete, delete_in}
use Rattle.frame_meaning.specs.declared.reason.Reason.TheVariants.{Runt, CutTag, NoMapper, NullPointer, NoInterwork, NoGem, Direction}
use Rattle.frame_meaning.specs.declared.verdict.Verdict.{Verdict}
use Rattle.frame_meaning.specs.declared.verdict.Verdict.TheVariants.{Forward, Drop}
use Rattle.pmapper.specs.Mapper.{priority_of, pointer_of}
use Rattle.frame_meaning.specs.Meaning.{table_at, input_tpid_of, tags_at, mapper_at, carries_upstream, port_id_of, gem_port_behind, gem_port_of, gem_port_at, forwarded_by, meaning}

-- ---- the entities

abbrev request : Action → ℕ → ℕ → List ℕ → Request
request action class instance contents =
    record { tci = 1; action = action; wants_answer = true; class = class; instance = instance; contents = padded 32 contents }

-- the entities after one more request
abbrev and_then : Entities → Request → Entities
and_then e q = left q.action e q

-- GEM port network CTP 0x0401 of port-ID 1024, with a direction
abbrev gem_port : ℕ → Request
gem_port direction = request Create 268 0x0401 (0x04 ∷ 0x00 ∷ 0x80 ∷ 0x01 ∷ direction ∷ [])

-- GEM interworking termination point 0x0501 to it
abbrev point : Request
point = request Create 266 0x0501 (0x04 ∷ 0x01 ∷ 0x05 ∷ 0x06 ∷ 0x01 ∷ [])

-- a mapper of port 256 + port, whose eight pointers are the two bytes, with a default priority
abbrev mapper : ℕ → ℕ → ℕ → ℕ → ℕ → Request
mapper n port high low default =
    request Create 130 n
    (1 ∷ port ∷ high ∷ low ∷ high ∷ low ∷ high ∷ low ∷ high ∷ low ∷ high ∷ low ∷ high ∷ low ∷ high ∷ low ∷ high ∷ low ∷ 1 ∷ default ∷ 1 ∷ [])

-- port 257 leads to port-ID 1024
abbrev led : Entities
led = and_then (and_then (and_then nothing (gem_port 3)) point) (mapper 0x0601 1 0x05 0x01 0)

-- and port 258 has a mapper of null pointers
abbrev with_null_pointers : Entities
with_null_pointers = and_then led (mapper 0x0602 2 0xff 0xff 0)

abbrev without_gem_port : Entities
without_gem_port = and_then with_null_pointers (request Delete 268 0x0401 [])

abbrev downstream : Entities
downstream = and_then without_gem_port (gem_port 2)

abbrev without_point : Entities
without_point = and_then downstream (request Delete 266 0x0501 [])

abbrev without_mapper : Entities
without_mapper = and_then without_point (request Delete 130 0x0601 [])

-- ---- the frames

abbrev addresses : List ℕ
addresses = 2 ∷ 0 ∷ 0 ∷ 0 ∷ 0 ∷ 1 ∷ 2 ∷ 0 ∷ 0 ∷ 0 ∷ 0 ∷ 2 ∷ []

abbrev packet : List ℕ
packet = 0x08 ∷ 0x00 ∷ 0x45 ∷ 0x00 ∷ []

abbrev untagged : List ℕ
untagged = addresses ++ packet

-- by port-ID 1024, with these tags and this rest
abbrev forwarded : List TagFields → List ℕ → Verdict
forwarded tags rest = Forward 1024 (record { addresses = addresses; tags = tags; rest = rest })

-- ---- what becomes of the frames

-- each reason behind the frame's own, where it is found first
lookups : (meaning led 257 untagged ≡ forwarded [] packet)
    × (meaning with_null_pointers 258 untagged ≡ Drop NullPointer)
    × (meaning without_gem_port 257 untagged ≡ Drop NoGem)
    × (meaning downstream 257 untagged ≡ Drop Direction)
    × (meaning without_point 257 untagged ≡ Drop NoInterwork)
    × (meaning without_mapper 257 untagged ≡ Drop NoMapper)
unfolding meaning forwarded_by table_at input_tpid_of tags_at mapper_at priority_of pointer_of carries_upstream port_id_of gem_port_behind gem_port_of gem_port_at frame_of fault_of create create_in delete delete_in
lookups = (refl, refl, refl, refl, refl, refl)

-- frames that end early
short : (meaning led 257 (addresses ++ (0x08 ∷ [])) ≡ Drop Runt)
    × (meaning led 257 (addresses ++ (0x08 ∷ 0x00 ∷ [])) ≡ forwarded [] (0x08 ∷ 0x00 ∷ []))
    × (meaning led 257 (addresses ++ (0x81 ∷ 0x00 ∷ [])) ≡ Drop CutTag)
    × (meaning led 257 (addresses ++ (0x81 ∷ 0x00 ∷ 0x00 ∷ 0x64 ∷ 0x81 ∷ 0x00 ∷ [])) ≡ Drop CutTag)
unfolding meaning forwarded_by table_at input_tpid_of tags_at mapper_at priority_of pointer_of carries_upstream port_id_of gem_port_behind gem_port_of gem_port_at frame_of fault_of create create_in
short = (refl, refl, refl, refl)

-- a tag of VLAN 100 with a priority
abbrev tag : ℕ → TagFields
tag priority = record { tpid = 0x8100; pcp = priority; dei = true; vid = 100 }

-- two mappers of one port: the one of least number counts, whatever came first. Its default priority is 13, so 5.
abbrev by_priority : Entities
by_priority =
    and_then led (request Create 130 0x0600 (1 ∷ 1 ∷ 0xff ∷ 0xff ∷ 0x05 ∷ 0x99 ∷ 0xff ∷ 0xff ∷ 0xff ∷ 0xff ∷ 0xff ∷ 0xff ∷ 0x05 ∷ 0x01 ∷ 0xff ∷ 0xff ∷ 0xff ∷ 0xff ∷ 1 ∷ 13 ∷ 1 ∷ []))

-- the pointer is that of the outermost tag's priority
priorities : (meaning by_priority 257 untagged ≡ forwarded [] packet)
    × (meaning by_priority 257 (addresses ++ (0x81 ∷ 0x00 ∷ 0xb0 ∷ 0x64 ∷ packet)) ≡ forwarded (tag 5 ∷ []) packet)
    × (meaning by_priority 257 (addresses ++ (0x81 ∷ 0x00 ∷ 0x30 ∷ 0x64 ∷ 0x81 ∷ 0x00 ∷ 0xb0 ∷ 0x64 ∷ packet)) ≡ Drop NoInterwork)
    × (meaning by_priority 257 (addresses ++ (0x81 ∷ 0x00 ∷ 0xf0 ∷ 0x64 ∷ packet)) ≡ Drop NullPointer)
unfolding meaning forwarded_by table_at input_tpid_of tags_at mapper_at priority_of pointer_of carries_upstream port_id_of gem_port_behind gem_port_of gem_port_at frame_of fault_of create create_in
priorities = (refl, refl, refl, refl)
