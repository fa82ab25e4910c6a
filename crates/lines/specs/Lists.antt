-- Room for the lists of a line.
use Rattle.std.specs.Prelude.{◌≡◌, None}
use Rattle.lines.specs.declared.lists.Lists.{Lists}
use Rattle.lines.specs.declared.lists.Room.{Room}

-- no list is there
abbrev pub IsEmpty : Room → Type 0
IsEmpty r = r.numbers ≡ None

pub record AreEmpty (l : Lists) : Type 0 where
  pub kinds : IsEmpty l.kinds
  pub counts : IsEmpty l.counts
  pub installed : IsEmpty l.installed
