-- What one call of a view makes of its tables.
use Rattle.std.proofs.Common.{◌≡◌, Ok, Result, ap}
use Rattle.qe_schema.specs.Tables.{Tables}
use Rattle.qe_view.specs.Calls.{CallCounts}
use Rattle.qe_view.specs.Versions.{Viewed, OnlyViewed, Changes, changed}
use Rattle.qe_view.specs.declared.changes.ConnFault.{ConnFault}
use Rattle.qe_ops.specs.Leaves.{Same}

pub same_viewed : {T : Type 0} (one : CallCounts → CallCounts) (before after : Viewed) (result : Result T ConnFault) → OnlyViewed one before after result → Same before after
same_viewed one before after result viewed = (ap (λ (seen : Viewed). seen.now) viewed.others, ap (λ (seen : Viewed). seen.past) viewed.others)

pub schema_viewed : {T : Type 0} (one : CallCounts → CallCounts) (before after : Viewed) (result : Result T ConnFault) → OnlyViewed one before after result → after.schema ≡ before.schema
schema_viewed one before after result viewed = ap (λ (seen : Viewed). seen.schema) viewed.others

-- a change that was made
pub same_changed : (change : Tables → Tables) (before after : Viewed) (done : Unit {0}) → Changes change before after (Ok done) → Same (changed change before) after
same_changed change before after done changes = (ap (λ (seen : Viewed). seen.now) changes.ok, ap (λ (seen : Viewed). seen.past) changes.ok)
