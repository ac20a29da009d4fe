-- What frames are found by among others.
use Rattle.std.specs.Prelude.{◌&&◌, Bool}
use Rattle.std.specs.Str.{bytes_eq}
use Rattle.bench_record.specs.declared.core_key.CoreKey.{CoreKey}

-- whether two keys have the same bytes
abbrev pub is_same_key : CoreKey → CoreKey → Bool
is_same_key x y = bytes_eq x.addresses.now y.addresses.now && bytes_eq x.rest.now y.rest.now
