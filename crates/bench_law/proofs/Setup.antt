-- Messages and a frame for worked examples.
use Rattle.std.proofs.Common.{◌<◌, ◌+◌, ◌-◌, ◌*◌, ◌/◌, ◌%◌, ℕ, true, false, List, [], ◌∷◌, ◌++◌, length, replicate, arith}
use Rattle.omci_msg.specs.declared.request.Request.{Request}
use Rattle.omci_msg.specs.declared.reply.Reply.{Reply}
use Rattle.omci_msg.specs.declared.action.Action.TheVariants.{Create}
use Rattle.frame_meaning.specs.declared.verdict.Verdict.{Verdict}
use Rattle.frame_meaning.specs.declared.verdict.Verdict.TheVariants as verdict
use Rattle.bench_judge.specs.declared.settings.JudgeSettings.{JudgeSettings}

-- ---- messages

unfoldable pub filled : List ℕ → List ℕ
filled xs = xs ++ replicate (32 - length xs) 0

-- a message in 44 bytes: its identifier, message type, class and instance, and its contents
unfoldable pub message : ℕ → ℕ → ℕ → ℕ → ℕ → List ℕ → List ℕ
message tci kind class high low contents = 0 ∷ tci ∷ kind ∷ 10 ∷ class / 256 ∷ class % 256 ∷ high ∷ low ∷ [] ++ filled contents ++ 0 ∷ 0 ∷ 0 ∷ 40 ∷ []

unfoldable pub creating : ℕ → ℕ → ℕ → ℕ → List ℕ → Request
creating tci class high low contents =
    record { tci = tci; action = Create; wants_answer = true; class = class; instance = 256 * high + low; contents = filled contents }

unfoldable pub created : ℕ → ℕ → ℕ → ℕ → Reply
created tci class high low = record { tci = tci; action = Create; class = class; instance = 256 * high + low; contents = filled [] }

-- GEM port network CTP 0x0401 of port-ID 1024, GEM interworking termination point 0x0501 to it, and mapper 0x0601 of port 257 whose
-- pointers lead there
unfoldable pub gem_port : List ℕ
gem_port = 0x04 ∷ 0x00 ∷ 0x80 ∷ 0x01 ∷ 0x03 ∷ []

unfoldable pub point : List ℕ
point = 0x04 ∷ 0x01 ∷ 0x05 ∷ 0x06 ∷ 0x01 ∷ []

unfoldable pub mapper : List ℕ
mapper = 1 ∷ 1 ∷ 5 ∷ 1 ∷ 5 ∷ 1 ∷ 5 ∷ 1 ∷ 5 ∷ 1 ∷ 5 ∷ 1 ∷ 5 ∷ 1 ∷ 5 ∷ 1 ∷ 5 ∷ 1 ∷ 1 ∷ 0 ∷ 1 ∷ []

-- ---- the frame

unfoldable pub addresses : List ℕ
addresses = 2 ∷ 0 ∷ 0 ∷ 0 ∷ 0 ∷ 1 ∷ 2 ∷ 0 ∷ 0 ∷ 0 ∷ 0 ∷ 2 ∷ []

-- its first 24 bytes, and two more
unfoldable pub front : List ℕ
front = addresses ++ 0x08 ∷ 0x00 ∷ 0x45 ∷ 0x00 ∷ replicate 8 0

unfoldable pub frame : List ℕ
frame = front ++ 1 ∷ 2 ∷ []

unfoldable pub padded_frame : List ℕ
padded_frame = frame ++ replicate 34 0

unfoldable pub verdict_of_frame : Verdict
verdict_of_frame = verdict.Forward 1024 (record { addresses = addresses; tags = []; rest = 0x08 ∷ 0x00 ∷ 0x45 ∷ 0x00 ∷ replicate 8 0 ++ 1 ∷ 2 ∷ [] })

-- ---- the machine and the settings

-- its one lane
pub lane_0 : 0 < 1
lane_0 = omega arith

-- no setting is needed
unfoldable pub plain : JudgeSettings
plain = record { modelled = false; repeats = false; unordered = false; strays = false; padded = false }
