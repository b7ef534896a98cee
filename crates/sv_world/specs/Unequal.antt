-- An added node of which another wasn't told: an example.
use Rattle.std.specs.Prelude.{◌+◌, Some, []}
use Rattle.sv_model.specs.declared.key.Key.{Key}
use Rattle.sv_model.specs.declared.key.Secret.{Secret}
use Rattle.sv_model.specs.declared.response.Response.{Response}
use Rattle.sv_model.specs.declared.session.Session.{Session}
use Rattle.sv_model.specs.declared.outcome.Fate.TheVariants.{Untouched}
use Rattle.sv_model.specs.declared.outcome.Birth.TheVariants.{Alive}
use Rattle.sv_model.specs.Container.{Meanings, always}
use Rattle.sv_world.specs.Rules.{rules_for}
use Rattle.sv_world.specs.World.{Cluster}

-- the first session that node 1 makes
abbrev pub first_of_one : Key
first_of_one = record { home = 1; serial = 1 }

-- each request names that session, and a session is made where it isn't at hand
abbrev pub names_one : Response → Session → Secret → Meanings
names_one response s secret = always (record { names = λ r. Some (first_of_one, secret); serve = λ r held now fresh. record { response = response; fate = Untouched; birth = Alive s; events = [] }; hear = λ heard t. heard })

-- node 0 was told of one node, node 1 of two
abbrev pub unequal : Cluster
unequal = record { nodes = λ n boot. n + 1; rules = λ n boot. rules_for 30 }
