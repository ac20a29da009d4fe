-- What the plan of a port makes of the bytes of a frame is what they mean.
use Rattle.std.proofs.Common.{◌≡◌, ℕ, zero, suc, ◌+◌, ◌*◌, ◌^◌, ◌<◌, ◌≤◌, ◌-◌, List, [], ◌∷◌, ◌++◌, drop, take, map, length, Option, Some, None, Result, Ok, Err, All, refl, ap, sym, ◌∙◌, arith}
use Rattle.std.specs.Option.{unwrap_or}
use Rattle.tag_view.specs.declared.fault.FrameFault.{FrameFault}
use Rattle.tag_view.specs.Tag.{TagFields, IsInRange}
use Rattle.tag_view.specs.Frame.{IsReadTag, Reading, fault_of, frame_bytes, frame_of, reading_of, with_tags}
use Rattle.tag_view.specs.Word.{tag_of}
use Rattle.tag_view.specs.Dscp.{dscp_of}
use Rattle.port_plan.specs.declared.port_plan.Tagging.{Tagging}
use Rattle.tag_view.proofs.Readings.{exactly_one, one_reading}
use Rattle.rule_index.specs.Head.{FrameHead, head_in, head_of, head_read, tags_ahead}
use Rattle.mib_state.specs.Entities.{Entities}
use Rattle.frame_meaning.specs.declared.reason.Reason.{Reason}
use Rattle.frame_meaning.specs.declared.verdict.Verdict.TheVariants.{Forward, Drop}
use Rattle.port_plan.specs.declared.port_plan.PortPlan.{PortPlan}
use Rattle.frame_meaning.specs.Reason.{reason_of_fault}
use Rattle.frame_meaning.specs.Meaning.{Table, forwarded_by, found_then, gem_port_at, input_tpid_of, meaning, table_at, tags_at}
use Rattle.port_plan.specs.Plan.{transparent}
use Rattle.port_plan.specs.Leaving.{IsForeseen, IsFrameOf, IsHeadOf, IsPlanOf, leaves_by, tags_made, words_made}
use Rattle.std.proofs.lemmas.List.{length-take-le, length-drop, length-map}
use Rattle.frame_meaning.specs.Size.{GrowsLittle}
use Rattle.frame_meaning.proofs.Spellings.{length-spelled}

-- ---- from the frame to its verdict

-- the tag types of a plan are those of its port
planned_input : (table : Option Table) → (unwrap_or table transparent).settings.input_tpid ≡ input_tpid_of table
unfolding input_tpid_of
planned_input None = refl
planned_input (Some table) = refl

port_input : (e : Entities) (port : ℕ) (plan : PortPlan) → IsPlanOf e port plan → plan.table.now.table.settings.input_tpid ≡ input_tpid_of (table_at e port)
port_input e port plan planned = ap (λ (t : Table). t.settings.input_tpid) planned.table ∙ planned_input (table_at e port)

-- what leaves of a frame that is read
left_frame : Reading → ℕ × List TagFields → Result (ℕ × Reading) Reason
left_frame frame (gem, tags) = Ok (gem, record frame { tags = tags })

by_parts : (frame : Reading) (tags : Result (List TagFields) Reason) (gem : List TagFields → Result ℕ Reason)
    → found_then tags (λ tags. found_then (gem tags) (λ gem. Ok (gem, record frame { tags = tags })))
    ≡ found_then (found_then tags (λ tags. found_then (gem tags) (λ gem. Ok (gem, tags)))) (left_frame frame)
unfolding left_frame
by_parts frame (Err reason) gem = refl
by_parts frame (Ok tags) gem = inner (gem tags)
  where
    inner : (gem : Result ℕ Reason)
        → found_then gem (λ gem. Ok (gem, record frame { tags = tags })) ≡ found_then (found_then gem (λ gem. Ok (gem, tags))) (left_frame frame)
    inner (Err reason) = refl
    inner (Ok gem) = refl

forwarded_read : (e : Entities) (port : ℕ) (bytes : List ℕ) (plan : PortPlan) (frame : Reading) → IsPlanOf e port plan
    → frame_of plan.table.now.table.settings.input_tpid bytes ≡ Ok frame
    → forwarded_by e port bytes ≡ found_then (leaves_by e port frame) (left_frame frame)
unfolding forwarded_by leaves_by
forwarded_read e port bytes plan frame planned read =
    let here : frame_of (input_tpid_of (table_at e port)) bytes ≡ Ok frame = rw (← port_input e port plan planned) read in
    rw here (by_parts frame (tags_at (table_at e port) frame) (λ tags. gem_port_at e port tags (dscp_of frame.rest)))

pub meant_forward : (e : Entities) (port : ℕ) (bytes : List ℕ) (plan : PortPlan) (frame : Reading) (gem : ℕ) (tags : List TagFields) → IsPlanOf e port plan
    → frame_of plan.table.now.table.settings.input_tpid bytes ≡ Ok frame → leaves_by e port frame ≡ Ok (gem, tags)
    → Forward gem (record frame { tags = tags }) ≡ meaning e port bytes
unfolding meaning left_frame
meant_forward e port bytes plan frame gem tags planned read leaves = rw (forwarded_read e port bytes plan frame planned read, leaves) refl

pub meant_drop : (e : Entities) (port : ℕ) (bytes : List ℕ) (plan : PortPlan) (frame : Reading) (reason : Reason) → IsPlanOf e port plan
    → frame_of plan.table.now.table.settings.input_tpid bytes ≡ Ok frame → leaves_by e port frame ≡ Err reason
    → Drop reason ≡ meaning e port bytes
unfolding meaning
meant_drop e port bytes plan frame reason planned read dropped = rw (forwarded_read e port bytes plan frame planned read, dropped) refl

pub meant_fault : (e : Entities) (port : ℕ) (bytes : List ℕ) (plan : PortPlan) (fault : FrameFault) → IsPlanOf e port plan
    → frame_of plan.table.now.table.settings.input_tpid bytes ≡ Err fault → Drop (reason_of_fault fault) ≡ meaning e port bytes
unfolding meaning forwarded_by
meant_fault e port bytes plan fault planned read =
    let here : frame_of (input_tpid_of (table_at e port)) bytes ≡ Err fault = rw (← port_input e port plan planned) read in
    rw here refl

-- ---- from the bytes to the frame

head_or : FrameHead → Result FrameHead FrameFault → FrameHead
head_or other (Ok head) = head
head_or other (Err fault) = other

-- a head is that of the computed reading, which there is
record IsReadAs (input : ℕ) (bytes : List ℕ) (head : FrameHead) : Type 0 where
  none : fault_of input bytes ≡ None
  frame : frame_of input bytes ≡ Ok (reading_of input bytes)
  same : head_of (reading_of input bytes) ≡ head

read_as : (input : ℕ) (bytes : List ℕ) (head : FrameHead) → Ok head ≡ head_read input bytes → IsReadAs input bytes head
unfolding frame_of head_or
read_as input bytes head is = by_case (fault_of input bytes) refl
  where
    by_case : (fault : Option FrameFault) → fault_of input bytes ≡ fault → IsReadAs input bytes head
    by_case None none =
        let frame : frame_of input bytes ≡ Ok (reading_of input bytes) = rw none refl in
        record { none = none; frame = frame; same = sym (ap (head_or head) (is ∙ ap head_in frame)) }
    by_case (Some fault) some =
        let frame : frame_of input bytes ≡ Err fault = rw some refl in
        let no : Ok head ≡ Err fault = is ∙ ap head_in frame in
        cc

-- the tags of a reading are in range
in_range : (input : ℕ) (tags : List TagFields) → All (IsReadTag input) tags → All IsInRange tags
in_range input tags read = λ k d within. let tag = read k d within in tag.range

pub is_head : (plan : PortPlan) (bytes : List ℕ) (head : FrameHead) → plan.table.now.table.settings.input_tpid < 2 ^ 16 → All (λ b. b < 2 ^ 8) bytes
    → Ok head ≡ head_read plan.table.now.table.settings.input_tpid bytes → IsHeadOf plan bytes head
is_head plan bytes head fits each is =
    let input = plan.table.now.table.settings.input_tpid in
    let parsed = read_as input bytes head is in
    let one = exactly_one input bytes (record { type_fits = fits; each_fits = each }) parsed.none in
    let reads = one.1 in
    let parts : reading_of input bytes ≡ record { addresses = one.0.addresses; tags = one.0.tags; rest = one.0.rest } =
    one_reading bytes input one.0.addresses one.0.tags one.0.rest reads in
    let tags : (reading_of input bytes).tags ≡ one.0.tags = ap (λ (r : Reading). r.tags) parts in
    let head_tags : (reading_of input bytes).tags ≡ head.tags = ap (λ (h : FrameHead). h.tags) parsed.same in
    let same_tags : head.tags ≡ one.0.tags = sym head_tags ∙ tags in
    let came : length bytes ≡ length one.0.addresses + 4 * length one.0.tags + length one.0.rest =
    ap length reads.spelling ∙ length-spelled one.0.addresses one.0.tags one.0.rest in
    let count : length head.tags ≡ length one.0.tags = ap length same_tags in
    let twelve = reads.twelve in
    let type = reads.has_type in
    record {
      read = parsed.frame;
      of = record {
        ahead = record {
          read = parsed.same;
          two = rw tags reads.at_most_two;
          range = rw tags (in_range input one.0.tags reads.read_tags);
        };
        behind = ap (λ (tags : List TagFields). drop (12 + 4 * length tags) bytes) head_tags;
      };
      whole = omega arith;
    }

-- the head of a frame whose number of tags was found ahead
pub foreseen_head : (plan : PortPlan) (bytes : List ℕ) (head : FrameHead) (tags n : ℕ) → IsForeseen plan bytes tags → All (λ b. b < 2 ^ 8) bytes
    → tags ≡ n → n < 3 → ((input : ℕ) → n ≡ tags_ahead input bytes → head_read input bytes ≡ Ok head) → IsHeadOf plan bytes head
foreseen_head plan bytes head tags n foreseen each is few read =
    is_head plan bytes head foreseen.type_fits each (sym (read plan.table.now.table.settings.input_tpid (sym is ∙ foreseen.count (omega (arith, is, few)))))

fault_or : FrameFault → Result FrameHead FrameFault → FrameFault
fault_or other (Ok head) = other
fault_or other (Err fault) = fault

-- a frame that isn't read has that fault
pub read_fault : (e : Entities) (port : ℕ) (bytes : List ℕ) (plan : PortPlan) (fault : FrameFault) (reason : Reason) → IsPlanOf e port plan
    → Err fault ≡ head_read plan.table.now.table.settings.input_tpid bytes → reason ≡ reason_of_fault fault → Drop reason ≡ meaning e port bytes
unfolding frame_of fault_or
read_fault e port bytes plan fault reason planned is because = by_case (fault_of input bytes) refl
  where
    input : ℕ
    input = plan.table.now.table.settings.input_tpid

    by_case : (found : Option FrameFault) → fault_of input bytes ≡ found → Drop reason ≡ meaning e port bytes
    by_case None none =
        let frame : frame_of input bytes ≡ Ok (reading_of input bytes) = rw none refl in
        let no : Err fault ≡ Ok (head_of (reading_of input bytes)) = is ∙ ap head_in frame in
        cc
    by_case (Some found) some =
        let frame : frame_of input bytes ≡ Err found = rw some refl in
        let same : fault ≡ found = ap (fault_or fault) (is ∙ ap head_in frame) in
        ap Drop (because ∙ ap reason_of_fault same) ∙ meant_fault e port bytes plan found planned frame

-- ---- by the number of tags that were received

abbrev frame_at : PortPlan → List ℕ → Reading
frame_at plan bytes = reading_of plan.table.now.table.settings.input_tpid bytes

pub received_frame : (plan : PortPlan) (bytes : List ℕ) (head : FrameHead) (received : ℕ) (rest : List ℕ) → IsHeadOf plan bytes head
    → received ≡ length head.tags → rest ≡ drop (12 + 4 * received) bytes → IsFrameOf head rest (frame_at plan bytes)
received_frame plan bytes head received rest here count is = rw (is, count) here.of

-- a frame of words, by what its tags are made of
pub framed : (gem count received : ℕ) (bytes words : List ℕ) (tagging : Tagging) (frame : Reading)
    → frame ≡ record { addresses = take 12 bytes; tags = map tag_of (take count words); rest = drop (12 + 4 * received) bytes }
    → words ≡ words_made tagging → count ≡ tagging.treat.now.count
    → Forward gem frame ≡ Forward gem (record { addresses = take 12 bytes; tags = tags_made tagging; rest = drop (12 + 4 * received) bytes })
framed gem count received bytes words tagging frame is of_words of_count = rw (is, of_words, of_count) refl

-- the frame that leaves
pub received_forward : (e : Entities) (port : ℕ) (plan : PortPlan) (bytes : List ℕ) (head : FrameHead) (received gem : ℕ) (tags : List TagFields)
    → IsPlanOf e port plan → IsHeadOf plan bytes head → received ≡ length head.tags → leaves_by e port (frame_at plan bytes) ≡ Ok (gem, tags)
    → Forward gem (record { addresses = take 12 bytes; tags = tags; rest = drop (12 + 4 * received) bytes }) ≡ meaning e port bytes
received_forward e port plan bytes head received gem tags planned here count leaves =
    let same : length head.tags ≡ length (frame_at plan bytes).tags = ap (λ (h : FrameHead). length h.tags) (sym here.of.ahead.read) in
    ap (λ (n : ℕ). Forward gem (record { addresses = take 12 bytes; tags = tags; rest = drop (12 + 4 * n) bytes })) (count ∙ same)
    ∙ meant_forward e port bytes plan (frame_at plan bytes) gem tags planned here.read leaves

-- the verdicts with one more
pub one_more : {V : Type 0} (old new : List V) (verdict meant : V) → new ≡ old ++ verdict ∷ [] → verdict ≡ meant → new ≡ old ++ meant ∷ []
one_more old new verdict meant is same = is ∙ ap (λ (v : _). old ++ v ∷ []) same

-- a frame that leaves with four tags at most came with a whole type, and grows little
pub grows : (bytes : List ℕ) (received : ℕ) (tags : List TagFields) (frame : Reading) → 14 + 4 * received ≤ length bytes → length tags ≤ 4
    → frame ≡ record { addresses = take 12 bytes; tags = tags; rest = drop (12 + 4 * received) bytes } → GrowsLittle bytes frame
grows bytes received tags frame whole four is =
    let leaves = length-spelled (take 12 bytes) tags (drop (12 + 4 * received) bytes) in
    let ahead : length (take 12 bytes) ≡ 12 = length-take-le 12 bytes (omega arith) in
    let behind : length (drop (12 + 4 * received) bytes) ≡ length bytes - (12 + 4 * received) = length-drop (12 + 4 * received) bytes in
    rw is (record { whole = omega arith; little = omega arith })

-- so many words make no more tags
pub few_tags : (count : ℕ) (words : List ℕ) → length (map tag_of (take count words)) ≤ count
few_tags zero words = omega arith
few_tags (suc n) [] = omega arith
few_tags (suc n) (word ∷ words) = omega (arith, few_tags n words)

-- how many bytes a frame leaves with
pub left_length : {plan : PortPlan} {head : FrameHead} (bytes : List ℕ) (received count : ℕ) (tagging : Tagging) → IsHeadOf plan bytes head → received ≡ length head.tags
    → count ≡ tagging.treat.now.count → count ≤ 4 → length (words_made tagging) ≡ 4
    → length bytes - 4 * received + 4 * count ≡ length (frame_bytes (with_tags bytes received (tags_made tagging)))
left_length bytes received count tagging here is of_count few four =
    let words = words_made tagging in
    let leaves = length-spelled (take 12 bytes) (tags_made tagging) (drop (12 + 4 * received) bytes) in
    let ahead : length (take 12 bytes) ≡ 12 = length-take-le 12 bytes (omega (arith, here.whole)) in
    let behind : length (drop (12 + 4 * received) bytes) ≡ length bytes - (12 + 4 * received) = length-drop (12 + 4 * received) bytes in
    let tags : length (tags_made tagging) ≡ count =
    length-map (take tagging.treat.now.count words) tag_of ∙ length-take-le tagging.treat.now.count words (omega (arith, of_count, few, four)) ∙ sym of_count in
    omega (arith, leaves, ahead, behind, tags, here.whole, is)
