-- What rules show.
use Rattle.guards_views_spec.specs.Reading.{Ruled}
use Rattle.guards_views.specs.declared.rules.Rules.{Rules}

abbrev pub ruled : Rules → Ruled
ruled r = record { guard = r.shape; views = r.views; grants = r.grants }
