-- The first places of keys.
use Rattle.std.proofs.Common.{◌≡◌, Bool, List, sym}
use Rattle.std.proofs.lemmas.Iterator.Adapters.{position_from-zero}
use Rattle.std.specs.Prelude.{position}
use Rattle.std.specs.List.{position_from}

-- from the front on
pub all_placed : {K : Type 0} (test : K → Bool) (keys : List K) → position_from test 0 keys ≡ position test keys
all_placed test keys = sym (position_from-zero test keys)
