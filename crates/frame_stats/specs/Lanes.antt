-- What a book shows: how many lanes it has, a part for each, by its number, and their total.
use Rattle.std.specs.Prelude.{ℕ, List, vec_len}
use Rattle.frame_stats.specs.declared.book.StatBook.{StatBook}
use Rattle.frame_stats.specs.declared.counts.Counts.{Counts}

abbrev pub lanes_of : StatBook → ℕ
lanes_of book = vec_len book.parts

abbrev pub parts_of : StatBook → List Counts
parts_of book = book.parts.items

abbrev pub total_of : StatBook → Counts
total_of book = book.total
