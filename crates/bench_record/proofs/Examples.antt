-- Worked examples, computed. Frames have short rests, and captures a handful of frames.
use Rattle.std.proofs.Common.{◌≡◌, ◌++◌, ◌∷◌, ℕ, true, false, List, [], Option, Some, None, codes, refl}
use Rattle.std.specs.Fmt.{digits}
use Rattle.hex.specs.Hex.{encode_with}
use Rattle.bench_history.specs.declared.event.Event.{Event}
use Rattle.bench_history.specs.declared.event.Event.TheVariants.{Sent, Replied, Entered, Left, LeftOneOf, Strayed, Lost, Waited}
use Rattle.bench_history.specs.declared.extent.Extent.TheVariants.{Whole, Front}
use Rattle.bench_history.specs.declared.gem.SeenGem.TheVariants.{Port, Any}
use Rattle.bench_record.specs.Moments.{Timed}
use Rattle.bench_record.specs.Recorded.{history_shown}
use Rattle.bench_record.specs.Text.{text_of}
use Rattle.bench_record.specs.declared.captured.Capture.{Capture}
use Rattle.bench_record.specs.declared.captured.CapturedFrame.{CapturedFrame}
use Rattle.bench_record.specs.declared.captured.Side.{Side}
use Rattle.bench_record.specs.declared.captured.Side.TheVariants as side
use Rattle.bench_record.specs.declared.captured.Tap.{Tap}
use Rattle.bench_record.specs.declared.captured.Tap.TheVariants.{Omci, Into, OutOf}
use Rattle.bench_record.specs.declared.settings.RecordSettings.{RecordSettings}

-- settings without other types
abbrev settings : Option ℕ → Option ℕ → RecordSettings
settings wait lost = record { tpids = record { ref_ptr = (0, 0); now = [] }; padded = false; wait = wait; lost = lost; late = false; early = false }

abbrev at : ℕ → Tap → List ℕ → CapturedFrame
at time tap bytes = record { time = time; tap = tap; extent = Whole; bytes = record { ref_ptr = (0, 0); now = bytes } }

abbrev front : ℕ → Tap → List ℕ → CapturedFrame
front time tap bytes = record { time = time; tap = tap; extent = Front; bytes = record { ref_ptr = (0, 0); now = bytes } }

abbrev taken : Side → List CapturedFrame → Capture
taken on frames = record { side = on; frames = record { ref_ptr = (0, 0); now = frames } }

-- what is seen in a record, and what isn't seen in any
abbrev in_record : ℕ → ℕ → ℕ → Event → Timed
in_record capture place time event = record { time = time; source = Some (record { capture = capture; place = place }); event = event }

abbrev unseen : ℕ → Event → Timed
unseen time event = record { time = time; source = None; event = event }

-- addresses
abbrev ad : List ℕ
ad = 2 ∷ 0 ∷ 0 ∷ 0 ∷ 0 ∷ 1 ∷ 2 ∷ 0 ∷ 0 ∷ 0 ∷ 0 ∷ 2 ∷ []

-- a frame without tags and one with two
abbrev plain : ℕ → List ℕ
plain n = ad ++ 8 ∷ 0 ∷ 69 ∷ n ∷ []

abbrev tagged : ℕ → List ℕ
tagged n = ad ++ 129 ∷ 0 ∷ 0 ∷ 100 ∷ 136 ∷ 168 ∷ 0 ∷ 5 ∷ 8 ∷ 0 ∷ 69 ∷ n ∷ []

-- a frame leaves twice: the second time it is a stray
left_twice : history_shown (settings None None)
    (taken side.Into (at 1 (Into 257) (plain 0) ∷ []) ∷ taken side.OutOf (at 2 (OutOf (Port 7)) (tagged 0) ∷ at 3 (OutOf Any) (plain 0) ∷ []) ∷ [])
    ≡ record {
      events =
          in_record 0 1 1 (Entered 257 Whole (plain 0)) ∷ in_record 1 1 2 (Left (Port 7) Whole 0 (tagged 0))
          ∷ in_record 1 2 3 (Strayed Any Whole (plain 0)) ∷ [];
      passed = record { other = []; unread = []; early = []; unwritable = [] };
    }
left_twice = refl

-- one of two equal frames leaves, and then the other; behind these both have left
one_of_two : history_shown (settings None None)
    (taken side.Into (at 1 (Into 257) (plain 0) ∷ at 2 (Into 258) (plain 0) ∷ [])
    ∷ taken side.OutOf (at 3 (OutOf (Port 7)) (plain 0) ∷ at 4 (OutOf (Port 7)) (plain 0) ∷ at 5 (OutOf (Port 7)) (plain 0) ∷ []) ∷ [])
    ≡ record {
      events =
          in_record 0 1 1 (Entered 257 Whole (plain 0)) ∷ in_record 0 2 2 (Entered 258 Whole (plain 0))
          ∷ in_record 1 1 3 (LeftOneOf (Port 7) Whole (record { frame = plain 0; numbers = 0 ∷ 1 ∷ [] }))
          ∷ in_record 1 2 4 (LeftOneOf (Port 7) Whole (record { frame = plain 0; numbers = 0 ∷ 1 ∷ [] }))
          ∷ in_record 1 3 5 (Strayed (Port 7) Whole (plain 0)) ∷ [];
      passed = record { other = []; unread = []; early = []; unwritable = [] };
    }
one_of_two = refl

-- a frame may leave in the last moment before it is lost, and not later; one is lost only while the capture behind the unit goes on
lost_frames : history_shown (settings None (Some 1))
    (taken side.Into (at 0 (Into 257) (plain 0) ∷ at 2 (Into 257) (plain 0) ∷ at 1000004 (Into 257) (plain 1) ∷ [])
    ∷ taken side.OutOf (at 0 (OutOf (Port 7)) (plain 2) ∷ at 1000002 (OutOf (Port 7)) (plain 0) ∷ at 1000003 (OutOf (Port 7)) (plain 0) ∷ []) ∷ [])
    ≡ record {
      events =
          in_record 0 1 0 (Entered 257 Whole (plain 0)) ∷ in_record 0 2 2 (Entered 257 Whole (plain 0)) ∷ unseen 1000000 (Lost 0)
          ∷ in_record 1 2 1000002 (Left (Port 7) Whole 1 (plain 0)) ∷ in_record 1 3 1000003 (Strayed (Port 7) Whole (plain 0))
          ∷ in_record 0 3 1000004 (Entered 257 Whole (plain 1)) ∷ [];
      passed = record { other = []; unread = []; early = record { capture = 1; place = 1 } ∷ []; unwritable = [] };
    }
lost_frames = refl

-- a frame of 25 bytes, and its front
abbrev front_of : ℕ → List ℕ
front_of n = plain n ++ 1 ∷ 2 ∷ 3 ∷ 4 ∷ 5 ∷ 6 ∷ 7 ∷ 8 ∷ []

abbrev whole_of : ℕ → List ℕ
whole_of n = front_of n ++ 9 ∷ []

-- a frame of which the capture has a front leaves whole; of another too little is known
fronts : history_shown (settings None None)
    (taken side.Into (front 1 (Into 257) (front_of 0) ∷ [])
    ∷ taken side.OutOf (at 2 (OutOf (Port 7)) (whole_of 0) ∷ front 3 (OutOf (Port 7)) (plain 0) ∷ []) ∷ [])
    ≡ record {
      events = in_record 0 1 1 (Entered 257 Front (front_of 0)) ∷ in_record 1 1 2 (Left (Port 7) Whole 0 (whole_of 0)) ∷ [];
      passed = record { other = []; unread = record { capture = 1; place = 2 } ∷ []; early = []; unwritable = [] };
    }
fronts = refl

-- a frame of which the capture has a front is longer than that
not_longer : history_shown (settings None None)
    (taken side.Into (front 1 (Into 257) (front_of 0) ∷ []) ∷ taken side.OutOf (at 2 (OutOf (Port 7)) (front_of 0) ∷ []) ∷ [])
    ≡ record {
      events = in_record 0 1 1 (Entered 257 Front (front_of 0)) ∷ in_record 1 1 2 (Strayed (Port 7) Whole (front_of 0)) ∷ [];
      passed = record { other = []; unread = []; early = []; unwritable = [] };
    }
not_longer = refl

-- three tags
abbrev three : List ℕ
three = 129 ∷ 0 ∷ 0 ∷ 1 ∷ 129 ∷ 0 ∷ 0 ∷ 2 ∷ 136 ∷ 168 ∷ 0 ∷ 3 ∷ []

-- what stands behind the tags of a front may be the first byte of a tag, or of the type
cut_tags : history_shown (settings None None)
    (taken side.Into (at 1 (Into 257) (plain 0) ∷ [])
    ∷ taken side.OutOf (front 2 (OutOf Any) (ad ++ three ++ 137 ∷ []) ∷ front 3 (OutOf Any) (ad ++ three ++ 129 ∷ []) ∷ []) ∷ [])
    ≡ record {
      events =
          in_record 0 1 1 (Entered 257 Whole (plain 0)) ∷ in_record 1 1 2 (Strayed Any Front (ad ++ three ++ 137 ∷ []))
          ∷ in_record 1 2 3 (Left Any Front 0 (ad ++ three ++ 129 ∷ [])) ∷ [];
      passed = record { other = []; unread = []; early = []; unwritable = [] };
    }
cut_tags = refl

-- where too little is known of a frame that leaves, those that were sent before it aren't told as lost
hidden_frames : history_shown (settings None (Some 1))
    (taken side.Into (at 0 (Into 257) (plain 0) ∷ at 10 (Into 257) (plain 1) ∷ [])
    ∷ taken side.OutOf (at 0 (OutOf (Port 7)) (plain 2) ∷ front 5 (OutOf (Port 7)) (plain 0) ∷ at 3000000 (OutOf (Port 7)) (plain 2) ∷ []) ∷ [])
    ≡ record {
      events =
          in_record 0 1 0 (Entered 257 Whole (plain 0)) ∷ in_record 0 2 10 (Entered 257 Whole (plain 1)) ∷ unseen 1000010 (Lost 1)
          ∷ in_record 1 3 3000000 (Strayed (Port 7) Whole (plain 2)) ∷ [];
      passed = record {
        other = [];
        unread = record { capture = 1; place = 2 } ∷ [];
        early = record { capture = 1; place = 1 } ∷ [];
        unwritable = [];
      };
    }
hidden_frames = refl

-- where too little is known of a frame that is sent, what leaves unmatched is no stray until that is lost
unnumbered_frames : history_shown (settings None (Some 1))
    (taken side.Into (at 0 (Into 257) (plain 3) ∷ front 2000000 (Into 257) (plain 0) ∷ [])
    ∷ taken side.OutOf (at 2000005 (OutOf (Port 7)) (plain 0) ∷ at 3000001 (OutOf (Port 7)) (plain 0) ∷ []) ∷ [])
    ≡ record {
      events = in_record 0 1 0 (Entered 257 Whole (plain 3)) ∷ in_record 1 2 3000001 (Strayed (Port 7) Whole (plain 0)) ∷ [];
      passed = record {
        other = [];
        unread = record { capture = 0; place = 2 } ∷ [];
        early = record { capture = 1; place = 1 } ∷ [];
        unwritable = [];
      };
    }
unnumbered_frames = refl

-- without a capture in front of the unit nothing is a stray
no_front : history_shown (settings None None) (taken side.OutOf (at 9 (OutOf (Port 7)) (plain 0) ∷ []) ∷ [])
    ≡ record { events = []; passed = record { other = []; unread = []; early = record { capture = 0; place = 1 } ∷ []; unwritable = [] } }
no_front = refl

-- settings where a wire may have padded frames
abbrev padding : RecordSettings
padding = record (settings None None) { padded = true }

-- a wire padded a frame
padded : history_shown padding
    (taken side.Into (at 1 (Into 257) (plain 1) ∷ []) ∷ taken side.OutOf (at 2 (OutOf (Port 7)) (plain 1 ++ 0 ∷ 0 ∷ []) ∷ []) ∷ [])
    ≡ record {
      events = in_record 0 1 1 (Entered 257 Whole (plain 1)) ∷ in_record 1 1 2 (Left (Port 7) Whole 0 (plain 1 ++ 0 ∷ 0 ∷ [])) ∷ [];
      passed = record { other = []; unread = []; early = []; unwritable = [] };
    }
padded = refl

-- and the capture has a front of it, with zeros; another byte among them is another frame's
padded_front : history_shown padding
    (taken side.Into (at 1 (Into 257) (plain 1) ∷ [])
    ∷ taken side.OutOf (front 2 (OutOf (Port 7)) (plain 1 ++ 0 ∷ 0 ∷ 0 ∷ 0 ∷ 0 ∷ 0 ∷ 0 ∷ 4 ∷ []) ∷ front 3 (OutOf (Port 7)) (plain 1 ++ 0 ∷ 0 ∷ 0 ∷ 0 ∷ 0 ∷ 0 ∷ 0 ∷ 0 ∷ []) ∷ []) ∷ [])
    ≡ record {
      events =
          in_record 0 1 1 (Entered 257 Whole (plain 1)) ∷ in_record 1 1 2 (Strayed (Port 7) Front (plain 1 ++ 0 ∷ 0 ∷ 0 ∷ 0 ∷ 0 ∷ 0 ∷ 0 ∷ 4 ∷ []))
          ∷ in_record 1 2 3 (Left (Port 7) Front 0 (plain 1 ++ 0 ∷ 0 ∷ 0 ∷ 0 ∷ 0 ∷ 0 ∷ 0 ∷ 0 ∷ [])) ∷ [];
      passed = record { other = []; unread = []; early = []; unwritable = [] };
    }
padded_front = refl

-- what leaves unmatched while the capture in front of the unit begins is early, and behind that a stray
early_frames : history_shown (settings None None)
    (taken side.Into (at 5 (Into 257) (plain 0) ∷ [])
    ∷ taken side.OutOf (at 5 (OutOf (Port 7)) (plain 1) ∷ at 6 (OutOf (Port 7)) (plain 1) ∷ []) ∷ [])
    ≡ record {
      events = in_record 0 1 5 (Entered 257 Whole (plain 0)) ∷ in_record 1 2 6 (Strayed (Port 7) Whole (plain 1)) ∷ [];
      passed = record { other = []; unread = []; early = record { capture = 1; place = 1 } ∷ []; unwritable = [] };
    }
early_frames = refl

-- settings where frames were on their way as the captures in front of the unit began
abbrev begun : RecordSettings
begun = record (settings None (Some 1)) { late = true }

-- three frames of one core are sent after one that no capture shows
abbrev on_their_way : List Capture
on_their_way =
    taken side.Into (at 5 (Into 257) (plain 0) ∷ at 900000 (Into 257) (plain 0) ∷ at 1000000 (Into 257) (plain 0) ∷ [])
    ∷ taken side.OutOf
    (at 0 (OutOf (Port 7)) (plain 2) ∷ at 6 (OutOf (Port 7)) (plain 0) ∷ at 950000 (OutOf (Port 7)) (plain 0) ∷ at 1100000 (OutOf (Port 7)) (plain 0) ∷ [])
    ∷ []

-- what leaves while it may be from before is passed over, and may be the first frame, which isn't told as lost; of the others one leaves behind that
late_captures : history_shown begun on_their_way
    ≡ record {
      events =
          in_record 0 1 5 (Entered 257 Whole (plain 0)) ∷ in_record 0 2 900000 (Entered 257 Whole (plain 0)) ∷ in_record 0 3 1000000 (Entered 257 Whole (plain 0))
          ∷ in_record 1 4 1100000 (LeftOneOf (Port 7) Whole (record { frame = plain 0; numbers = 1 ∷ 2 ∷ [] })) ∷ [];
      passed = record {
        other = [];
        unread = [];
        early = record { capture = 1; place = 1 } ∷ record { capture = 1; place = 2 } ∷ record { capture = 1; place = 3 } ∷ [];
        unwritable = [];
      };
    }
late_captures = refl

-- without the setting the frame from before is taken for the first that was sent since, and that for the next one
late_unsaid : history_shown (settings None (Some 1)) on_their_way
    ≡ record {
      events =
          in_record 0 1 5 (Entered 257 Whole (plain 0)) ∷ in_record 1 2 6 (Left (Port 7) Whole 0 (plain 0)) ∷ in_record 0 2 900000 (Entered 257 Whole (plain 0))
          ∷ in_record 1 3 950000 (Left (Port 7) Whole 1 (plain 0)) ∷ in_record 0 3 1000000 (Entered 257 Whole (plain 0))
          ∷ in_record 1 4 1100000 (Left (Port 7) Whole 2 (plain 0)) ∷ [];
      passed = record { other = []; unread = []; early = record { capture = 1; place = 1 } ∷ []; unwritable = [] };
    }
late_unsaid = refl

-- two frames are sent and leave, and then one that no capture shows
abbrev sent_on : List Capture
sent_on =
    taken side.Into (at 5 (Into 257) (plain 0) ∷ at 6 (Into 257) (plain 1) ∷ [])
    ∷ taken side.OutOf (at 5 (OutOf (Port 7)) (plain 0) ∷ at 6 (OutOf (Port 7)) (plain 1) ∷ at 9 (OutOf (Port 7)) (plain 0) ∷ []) ∷ []

-- where that is set, what leaves from the last record of the capture in front of the unit on is passed over
early_captures : history_shown (record (settings None None) { early = true }) sent_on
    ≡ record {
      events =
          in_record 0 1 5 (Entered 257 Whole (plain 0)) ∷ in_record 1 1 5 (Left (Port 7) Whole 0 (plain 0)) ∷ in_record 0 2 6 (Entered 257 Whole (plain 1)) ∷ [];
      passed = record { other = []; unread = []; early = record { capture = 1; place = 2 } ∷ record { capture = 1; place = 3 } ∷ []; unwritable = [] };
    }
early_captures = refl

-- without the setting the last one is a stray
early_unsaid : history_shown (settings None None) sent_on
    ≡ record {
      events =
          in_record 0 1 5 (Entered 257 Whole (plain 0)) ∷ in_record 1 1 5 (Left (Port 7) Whole 0 (plain 0)) ∷ in_record 0 2 6 (Entered 257 Whole (plain 1))
          ∷ in_record 1 2 6 (Left (Port 7) Whole 1 (plain 1)) ∷ in_record 1 3 9 (Strayed (Port 7) Whole (plain 0)) ∷ [];
      passed = record { other = []; unread = []; early = []; unwritable = [] };
    }
early_unsaid = refl

-- with several captures the one that begins last decides
late_by_the_last : history_shown begun
    (taken side.Into (at 5 (Into 257) (plain 1) ∷ at 2400000 (Into 257) (plain 0) ∷ []) ∷ taken side.Into (at 2000000 (Into 258) (plain 3) ∷ [])
    ∷ taken side.OutOf (at 2500000 (OutOf (Port 7)) (plain 0) ∷ at 3000000 (OutOf (Port 7)) (plain 4) ∷ at 3000001 (OutOf (Port 7)) (plain 4) ∷ []) ∷ [])
    ≡ record {
      events =
          in_record 0 1 5 (Entered 257 Whole (plain 1)) ∷ in_record 1 1 2000000 (Entered 258 Whole (plain 3)) ∷ in_record 0 2 2400000 (Entered 257 Whole (plain 0))
          ∷ in_record 2 3 3000001 (Strayed (Port 7) Whole (plain 4)) ∷ [];
      passed = record { other = []; unread = []; early = record { capture = 2; place = 1 } ∷ record { capture = 2; place = 2 } ∷ []; unwritable = [] };
    }
late_by_the_last = refl

-- a doubtful frame isn't told as lost
doubtful_frames : history_shown (settings None (Some 1))
    (taken side.Into (at 0 (Into 257) (plain 0) ∷ at 0 (Into 257) (plain 0) ∷ [])
    ∷ taken side.OutOf (at 0 (OutOf (Port 7)) (plain 1) ∷ at 1 (OutOf (Port 7)) (plain 0) ∷ at 3000000 (OutOf (Port 7)) (plain 1) ∷ []) ∷ [])
    ≡ record {
      events =
          in_record 0 1 0 (Entered 257 Whole (plain 0)) ∷ in_record 0 2 0 (Entered 257 Whole (plain 0))
          ∷ in_record 1 2 1 (LeftOneOf (Port 7) Whole (record { frame = plain 0; numbers = 0 ∷ 1 ∷ [] }))
          ∷ in_record 1 3 3000000 (Strayed (Port 7) Whole (plain 1)) ∷ [];
      passed = record { other = []; unread = []; early = record { capture = 1; place = 1 } ∷ []; unwritable = [] };
    }
doubtful_frames = refl

-- a request, its reply and the wait behind it
abbrev message : ℕ → List ℕ
message kind = 0 ∷ 1 ∷ kind ∷ 10 ∷ ad ++ ad ++ ad ++ 0 ∷ 0 ∷ 0 ∷ 0 ∷ []

abbrev managing : ℕ → List ℕ
managing kind = ad ++ 136 ∷ 181 ∷ message kind

messages : history_shown (settings (Some 1) None)
    (taken side.Omci (at 1 Omci (managing 68) ∷ at 2 Omci (managing 36) ∷ at 3 Omci (plain 0) ∷ at 4 Omci (ad ++ 136 ∷ 181 ∷ []) ∷ []) ∷ [])
    ≡ record {
      events = in_record 0 1 1 (Sent (message 68)) ∷ in_record 0 2 2 (Replied (message 36)) ∷ unseen 1000002 (Waited (Some 1)) ∷ [];
      passed = record { other = record { capture = 0; place = 3 } ∷ []; unread = record { capture = 0; place = 4 } ∷ []; early = []; unwritable = [] };
    }
messages = refl

-- the text of events, with where they were seen
text : text_of (Some (codes "in.pcapng" ∷ []))
    (in_record 0 7 12003998000 (Entered 257 Front (2 ∷ 171 ∷ [])) ∷ in_record 1 18 12004211000 (LeftOneOf Any Whole (record { frame = 2 ∷ []; numbers = 0 ∷ 12 ∷ [] }))
    ∷ unseen 5 (Lost 0) ∷ [])
    ≡ codes "# in.pcapng record 7 12.003998000 s\nf 257 02ab..\n#  record 18 12.004211000 s\na any 02 0 12\nl 0\ne\n"
unfolding digits encode_with
text = refl
