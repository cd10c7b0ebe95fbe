-- Equality of entries of a journal. The test decides whether two entries are one (`EntryEqualityLaws`).
use Rattle.std.specs.Prelude.{Bool, ◌&&◌, ◌==◌}
use Rattle.debounce_model.specs.Equality.{command_eq, reply_eq}
use Rattle.debounce_book.specs.Journal.{EntryValue}

-- the same command of the same script had the same reply
abbrev pub entry_eq : EntryValue → EntryValue → Bool
entry_eq a b = a.from == b.from && command_eq a.command b.command && reply_eq a.reply b.reply
