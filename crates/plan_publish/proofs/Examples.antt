-- A worked example, computed: two lanes, one of which still holds a version while the next is published.
use Rattle.std.proofs.Common.{◌≡◌, ℕ, ◌<◌, Contains, List, [], ◌∷◌, ◌++◌, refl, true, false, arith}
use Rattle.tag_view.specs.Tag.{TagFields}
use Rattle.tag_view.specs.Frame.{fault_of, frame_of}
use Rattle.vlan_rule.specs.Entry.{entry_of, refusal_of, kind_of, value_of, number_of, key_of}
use Rattle.vlan_rule.specs.Table.{is_deletion, put}
use Rattle.vlan_rule.specs.Choice.{choice, matches}
use Rattle.vlan_rule.specs.Meaning.{ethertype_of, filter_of, rank_of, treatment_of}
use Rattle.treatment.specs.Treatment.{treated, treated_by}
use Rattle.pmapper.specs.Mapper.{priority_of, pointer_of}
use Rattle.omci_msg.specs.declared.Request.{Request}
use Rattle.omci_msg.specs.declared.Action.{Action}
use Rattle.omci_msg.specs.declared.Action.TheVariants.{Create, Set, MibUpload}
use Rattle.managed_entity.specs.Answer.{padded}
use Rattle.managed_entity.specs.Mask.{mask_of}
use Rattle.managed_entity.specs.Set.{set_instance}
use Rattle.mib_state.specs.Step.{create, create_in, set, set_in}
use Rattle.mib_upload.specs.Rows.{rows_of, attributes}
use Rattle.mib_upload.specs.Upload.{upload_contents}
use Rattle.frame_meaning.specs.declared.verdict.Verdict.TheVariants as verdict
use Rattle.frame_meaning.specs.Meaning.{table_at, entry_for, input_tpid_of, tags_by, tags_at, mapper_at, carries_upstream, port_id_of, gem_port_behind, gem_port_of, gem_port_at, forwarded_by, meaning}
use Rattle.plan_publish.specs.World.{World, opening, Event, Message, Publish, Tell, Enter, Forward, Leave, IsRun, happens, world_after, Answer, answer, Replied, Gave, Decided, Silent}

-- the answers to events in turn
answers_from : World → List Event → List Answer
answers_from w [] = []
answers_from w (event ∷ rest) = answer w event ∷ answers_from (happens w event) rest

asked : ℕ → Action → ℕ → ℕ → List ℕ → Request
asked tci action class instance contents =
    record { tci = tci; action = action; wants_answer = true; class = class; instance = instance; contents = padded 32 contents }

-- GEM port network CTP 0x0401 of port-ID 1024, GEM interworking termination point 0x0501 to it, mapper 0x0601 of port 257 whose
-- pointers lead there, and table 0x0701 of that port
gem_port : Request
gem_port = asked 1 Create 268 0x0401 (0x04 ∷ 0x00 ∷ 0x80 ∷ 0x01 ∷ 0x03 ∷ [])

point : Request
point = asked 2 Create 266 0x0501 (0x04 ∷ 0x01 ∷ 0x05 ∷ 0x06 ∷ 0x01 ∷ [])

mapper : Request
mapper =
    asked 3 Create 130 0x0601
    (1 ∷ 1 ∷ 5 ∷ 1 ∷ 5 ∷ 1 ∷ 5 ∷ 1 ∷ 5 ∷ 1 ∷ 5 ∷ 1 ∷ 5 ∷ 1 ∷ 5 ∷ 1 ∷ 5 ∷ 1 ∷ 1 ∷ 0 ∷ 1 ∷ [])

table : Request
table = asked 4 Create 171 0x0701 (2 ∷ 1 ∷ 1 ∷ [])

-- an untagged frame leaves with VLAN 100
rule : Request
rule = asked 5 Set 171 0x0701 (4 ∷ 0 ∷ entry_of 0xf8000000f8000000 0x000f000000000324)

-- two that aren't accepted: an instance that is there already, and a MIB upload
again : Request
again = asked 6 Create 268 0x0401 []

upload : Request
upload = asked 7 MibUpload 2 0 []

addresses : List ℕ
addresses = 2 ∷ 0 ∷ 0 ∷ 0 ∷ 0 ∷ 1 ∷ 2 ∷ 0 ∷ 0 ∷ 0 ∷ 0 ∷ 2 ∷ []

packet : List ℕ
packet = 0x08 ∷ 0x00 ∷ 0x45 ∷ 0x00 ∷ []

run : List Event
run =
    Message gem_port ∷ Message point ∷ Message mapper ∷ Message table ∷ Message again ∷ Message upload
    ∷ Publish ∷ Tell 0 4 ∷ Tell 1 4 ∷ Enter 0 ∷ Enter 1
    ∷ Forward 0 257 (addresses ++ packet) ∷ Leave 0
    ∷ Message rule
    ∷ Forward 1 257 (addresses ++ packet)
    ∷ Publish
    ∷ Forward 1 257 (addresses ++ packet)
    ∷ Leave 1 ∷ Tell 0 5 ∷ Tell 0 4 ∷ Enter 0 ∷ Enter 1
    ∷ Forward 0 257 (addresses ++ packet) ∷ Forward 1 257 (addresses ++ packet)
    ∷ []

reply : ℕ → Action → ℕ → ℕ → List ℕ → Answer
reply tci action class instance contents =
    Replied (record { tci = tci; action = action; class = class; instance = instance; contents = padded 32 contents })

-- by port-ID 1024, with these tags
forwarded : List TagFields → Answer
forwarded tags = Decided (verdict.Forward 1024 (record { addresses = addresses; tags = tags; rest = packet }))

-- ---- what happens

lane_0 : 0 < 2
lane_0 = omega arith

lane_1 : 1 < 2
lane_1 = omega arith

given_last : (t : ℕ) (ts : List ℕ) → Contains (t ∷ ts) t
given_last t ts = (0, omega arith, refl)

given_before : (t u : ℕ) (ts : List ℕ) → Contains (u ∷ t ∷ ts) t
given_before t u ts = (1, omega arith, refl)

-- each event is possible where it comes; these are the answers; and lane 0, which was told 5 and then 4, has seen 5
what_happens : IsRun 2 opening run
    × (answers_from opening run
    ≡ reply 1 Create 268 0x0401 [] ∷ reply 2 Create 266 0x0501 [] ∷ reply 3 Create 130 0x0601 [] ∷ reply 4 Create 171 0x0701 []
    ∷ reply 6 Create 268 0x0401 (7 ∷ []) ∷ reply 7 MibUpload 2 0 (0 ∷ 7 ∷ [])
    ∷ Gave 4 ∷ Silent ∷ Silent ∷ Silent ∷ Silent
    ∷ forwarded [] ∷ Silent
    ∷ reply 5 Set 171 0x0701 []
    ∷ forwarded []
    ∷ Gave 5
    ∷ forwarded []
    ∷ Silent ∷ Silent ∷ Silent ∷ Silent ∷ Silent
    ∷ forwarded (record { tpid = 0x8100; pcp = 0; dei = false; vid = 100 } ∷ [])
    ∷ forwarded (record { tpid = 0x8100; pcp = 0; dei = false; vid = 100 } ∷ [])
    ∷ [])
    × (((world_after run).lane 0).seen ≡ 5)
unfolding answers_from asked gem_port point mapper table rule again upload addresses packet run reply forwarded create create_in set set_in set_instance mask_of put key_of is_deletion refusal_of kind_of value_of number_of meaning forwarded_by table_at entry_for input_tpid_of tags_by tags_at mapper_at priority_of pointer_of carries_upstream port_id_of gem_port_behind gem_port_of gem_port_at frame_of fault_of choice matches ethertype_of filter_of rank_of treatment_of treated treated_by upload_contents rows_of attributes
what_happens = (search (lane_0, lane_1, given_last, given_before), refl, refl)
