-- What runs after a pair that is not refused, for the laws: captions after a command, its class after a start or a continuation,
-- and otherwise what ran before. The port's own words.
use Rattle.extended.specs.declared.part.Part.TheVariants as part
use Rattle.extended.specs.declared.part.Part.{Part}
use Rattle.extended.specs.declared.state.Running.TheVariants as running
use Rattle.extended.specs.declared.state.Running.{Running}

abbrev pub runs_after : Part → Running → Running
runs_after part.Command r = running.Captions
runs_after (part.Start c) r = running.Extended c
runs_after (part.Continuation c) r = running.Extended c
runs_after part.End r = r
runs_after part.Other r = r
