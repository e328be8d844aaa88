-- Small societies, computed. Assumes nothing.
use Rattle.std.proofs.Common.{refl}
use Rattle.circle.specs.Circle.{at_risk, units, whole, most, start, owner, turned}
use Rattle.circle.specs.Sums.{span}
use Rattle.sharing.specs.Sharing.{falls_to, stands_for, gets}
use Rattle.sharing.specs.Small.{SmallShares}

pub small_shares : SmallShares
unfolding gets stands_for falls_to at_risk units whole most start owner turned span
small_shares = record { equals_first = refl; half_first = refl; half_second = refl; half_third = refl }
