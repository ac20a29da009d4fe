-- The statuses with which the program ends.
use Rattle.std.specs.Prelude.{ℕ, if◌then◌else◌, ◌==◌}
use Rattle.text_writing.specs.declared.status.Status.{Status}
use Rattle.text_writing.specs.declared.status.Status.TheVariants.{Done, Failed, Bad, Found, Undecided, Unread}

abbrev pub code_of : Status → ℕ
code_of Done = 0
code_of Failed = 1
code_of Bad = 2
code_of Found = 3
code_of Undecided = 4
code_of Unread = 141

-- that of a number; a number that none has is a failure
abbrev pub status_numbered : ℕ → Status
status_numbered code =
    if code == 0 then Done
    else (if code == 2 then Bad
    else (if code == 3 then Found
    else (if code == 4 then Undecided
    else (if code == 141 then Unread else Failed))))
