use Rattle.book.proofs.pages.install.Given as goal
use Rattle.book.specs.Lists.{spliced}
use Rattle.book.specs.Opening.{all_day}
use Rattle.std.specs.List.{flat_map}
use Rattle.std.proofs.Common.{◌≡◌, take}

abbrev pub invariant-loop-g : goal.invariant-loop-g
invariant-loop-g l = l.page ≡ spliced 0 (flat_map all_day (take l.g l.installed)) l.initial.page
