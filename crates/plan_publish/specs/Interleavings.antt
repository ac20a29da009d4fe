-- What holds of every interleaving of events. Which requests were accepted, how many of them a lane holds and which tokens it
-- was told are said of the events alone, not of the world.
use Rattle.std.specs.Prelude.{◌≡◌, ℕ, ◌≤◌, ◌==◌, max, Bool, true, false, List, [], ◌∷◌, ◌++◌, length, take, fold, Contains, if◌then◌else◌}
use Rattle.std.specs.List.{flat_map, list_any}
use Rattle.omci_msg.specs.declared.Request.{Request}
use Rattle.mib_state.specs.After.{after, accepted}
use Rattle.mib_upload.specs.Upload.{DeskState, answered, start}
use Rattle.frame_meaning.specs.Meaning.{meaning}
use Rattle.plan_publish.specs.World.{opening, Event, Message, Publish, Tell, Enter, Forward, IsRun, world_after, answer, Replied, Gave, Decided}

-- ---- what events say of themselves

-- the request of an event
abbrev pub request_in : Event → List Request
request_in (Message q) = q ∷ []
request_in _ = []

-- the requests of all messages
abbrev pub requests_in : List Event → List Request
requests_in events = flat_map request_in events

-- those that are accepted
abbrev pub accepted_in : List Event → List Request
accepted_in events = accepted (requests_in events)

-- the desk after each request in turn
abbrev pub desk_after : List Request → DeskState
desk_after requests = fold (λ s q. (answered s q).1) start requests

abbrev pub is_publish : Event → Bool
is_publish Publish = true
is_publish _ = false

abbrev pub is_enter : ℕ → Event → Bool
is_enter l (Enter k) = k == l
is_enter l _ = false

-- the events before the last of a kind, or none where none is of that kind
abbrev pub before_last : (Event → Bool) → List Event → List Event
before_last is_kind [] = []
before_last is_kind (event ∷ rest) = if list_any is_kind rest then event ∷ before_last is_kind rest else []

-- how many requests were accepted before the last publish: 0 where there was none
abbrev pub published_by : List Event → ℕ
published_by events = length (accepted_in (before_last is_publish events))

-- the same of the last publish that precedes the last enter of a lane: 0 where there was no enter, or no publish before it
abbrev pub entered_with : ℕ → List Event → ℕ
entered_with l events = published_by (before_last (is_enter l) events)

-- the token that a lane is told by an event
abbrev pub token_to : ℕ → Event → List ℕ
token_to l (Tell k token) = if k == l then token ∷ [] else []
token_to l _ = []

-- all tokens that a lane was told
abbrev pub tokens_to : ℕ → List Event → List ℕ
tokens_to l events = flat_map (token_to l) events

-- the greatest of a number and others
abbrev pub greatest : ℕ → List ℕ → ℕ
greatest n others = fold max n others

-- ---- the law, at each place of each run

-- a reply is that of the desk after all requests before it
abbrev pub RepliesFollow : Type 0
RepliesFollow =
    (lanes : ℕ) (past rest : List Event) (q : Request) → IsRun lanes opening (past ++ Message q ∷ rest)
    → answer (world_after past) (Message q) ≡ Replied (answered (desk_after (requests_in past)) q).0

-- a token is the number of requests accepted before its publish
abbrev pub TokensCount : Type 0
TokensCount =
    (lanes : ℕ) (past rest : List Event) → IsRun lanes opening (past ++ Publish ∷ rest)
    → answer (world_after past) Publish ≡ Gave (length (accepted_in past))

-- a frame gets what the entities after the first so many accepted requests mean for it: as many as were accepted before the
-- last publish that precedes the lane's last enter
abbrev pub VerdictsAreOfAPrefix : Type 0
VerdictsAreOfAPrefix =
    (lanes : ℕ) (past rest : List Event) (l port : ℕ) (bytes : List ℕ) → IsRun lanes opening (past ++ Forward l port bytes ∷ rest)
    → answer (world_after past) (Forward l port bytes)
    ≡ Decided (meaning (after (take (entered_with l past) (accepted_in past))) port bytes)

-- for a lane this number never falls
abbrev pub PrefixesGrow : Type 0
PrefixesGrow = (l : ℕ) (past more : List Event) → entered_with l past ≤ entered_with l (past ++ more)

-- where a lane forwards, it is at least the number of each token that the lane was told before
abbrev pub PrefixesReachTokens : Type 0
PrefixesReachTokens =
    (lanes : ℕ) (past rest : List Event) (l port : ℕ) (bytes : List ℕ) (token : ℕ)
    → IsRun lanes opening (past ++ Forward l port bytes ∷ rest) → Contains (tokens_to l past) token → token ≤ entered_with l past

-- a lane has seen the greatest of this number and the tokens that it was told
abbrev pub SeenIsGreatest : Type 0
SeenIsGreatest =
    (lanes : ℕ) (past rest : List Event) (l : ℕ) → IsRun lanes opening (past ++ rest)
    → ((world_after past).lane l).seen ≡ greatest (entered_with l past) (tokens_to l past)
