use Rattle.std.proofs.Common.{◌≡◌, length, sym, refl, ◌∙◌, arith}
use Rattle.book.proofs.OpeningPages.{begun_for}
use Rattle.book.proofs.OpeningStations.{each_opened, laid_opened, sound_opened, sums_opened}
use Rattle.book.proofs.book.Book.open.Goals as goal
use Rattle.book.specs.Sound.{IsSound}
use Rattle.std.proofs.lemmas.Int.{ints}

pub begin-requires : goal.begin-requires
begin-requires g c =
    let o = c.args.opening.now in
    let at = c.in_ok-generators.ensures.1 in
    let ss = c.lay_stations-stations.result.items in
    let views = c.lay_stations-stations.ensures in
    let sums = sums_opened ss 0 o.kinds.now o.counts.now at.stations.same views in
    let stations : c.len.result ≡ length o.kinds.now = omega (arith, sums.stations) in
    let generators : length o.installed.now ≡ c.in_ok-generators.generators = omega (arith, at.each) in
    record {
      few = omega (arith, stations, at.stations.few);
      most = omega (arith, generators, at.most);
      installable = at.installable;
      room = record {
        schedules = omega (arith, stations, at.room.schedules);
        capacities = omega (arith, generators, at.room.capacities);
        readings = omega (arith, generators, at.room.readings);
        accounts = omega (arith, generators, at.room.accounts);
      };
    }

pub invariant_of-result : goal.invariant_of-result
invariant_of-result g c =
    let o = c.args.opening.now in
    let at = c.in_ok-generators.ensures.1 in
    let kinds = o.kinds.now in
    let counts = o.counts.now in
    let ss = c.lay_stations-stations.result.items in
    let views = c.lay_stations-stations.ensures in
    let sums = sums_opened ss 0 kinds counts at.stations.same views in
    record {
      few = (omega (arith, sums.stations, at.stations.some), omega (arith, sums.stations, at.stations.few));
      most = at.most;
      all = sums.generators ∙ sym at.all;
      laid = laid_opened ss kinds counts views;
      low = omega arith;
      even = omega (arith, ints, sums.even);
      sound = each_opened IsSound sound_opened ss 0 kinds counts views;
    }

pub returns : goal.returns
returns g c =
    let o = c.args.opening.now in
    let checked = c.in_ok-generators.ensures in
    let ss = c.lay_stations-stations.result.items in
    let views = c.lay_stations-stations.ensures in
    let sums = sums_opened ss 0 o.kinds.now o.counts.now checked.1.stations.same views in
    let stations : c.len.result ≡ length o.kinds.now = omega (arith, sums.stations) in
    record {
      cause = checked.0;
      tariff_is = refl;
      key_is = refl;
      cash = refl;
      openable = checked.1;
      stations = views;
      pages = begun_for c.len.result (length o.kinds.now) _ o.installed.now c.args.pages.now c.begin.new.pages stations refl c.begin.ensures;
    }
