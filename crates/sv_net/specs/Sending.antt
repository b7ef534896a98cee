-- How a packet leaves for the node that it is for.
use Rattle.std.specs.Prelude.{◌≡◌, ◌⊎◌, ◌++◌, ◌==◌, ℕ, Bool, List, [], Some, None, IfSome, All, Contains, Vec}
use Rattle.std.specs.declared.alloc.Global.{Global}
use Rattle.sv_net.specs.Bytes.{went_of}
use Rattle.sv_net.specs.Exchange.{said_on}
use Rattle.sv_net.specs.Places.{held_at}
use Rattle.sv_net.specs.declared.connections.Connections.{Connections}
use Rattle.sv_net.specs.declared.links.Link.{Link}
use Rattle.sv_net.specs.declared.links.Links.{Links}
use Rattle.sv_net.specs.declared.open.Open.{Open}
use Rattle.sv_net.specs.declared.state.Next.TheVariants.{Close}
use Rattle.sv_net.specs.declared.state.State.TheVariants.{Calling, Saying}

-- the connections to other nodes that are kept
abbrev pub links_in : Links → List Link
links_in links = links.links.items

abbrev pub links_of : Connections → List Link
links_of c = links_in c.links

-- a link is to the node of this number: it was made at that one's address
abbrev pub is_to : ℕ → Link → Bool
is_to node link = link.node == node

-- none of these links is another than it was
abbrev pub AreAmong : List Link → List Link → Type 0
AreAmong old new = All (λ link. Contains old link) new

-- so much has left by one of these links, which is to that node; or it is a new one, by which nothing has left
abbrev pub HasLeft : ℕ → List Link → List ℕ → Type 0
HasLeft to links bytes = (bytes ≡ []) ⊎ ((link : Link) × Contains links link × (link.node ≡ to) × (went_of link.socket ≡ bytes))

-- a link by which a packet to that node may be sent next
pub record IsLinkTo (to : ℕ) (links : List Link) (link : Link) : Type 0 where
  pub node : link.node ≡ to
  pub left_by : HasLeft to links (went_of link.socket)

-- a text left whole by a link to that node, after what had left by it
pub record IsSentBy (to : ℕ) (before text : List ℕ) (link : Link) : Type 0 where
  pub node : link.node ≡ to
  pub went : went_of link.socket ≡ before ++ text

-- what is left of a text waits on a connection to that node, which was a link, after what had left by it
pub record IsOnItsWay (to : ℕ) (before text : List ℕ) (held : Open) : Type 0 where
  pub frame : Vec ℕ Global
  pub calling : held.state ≡ Calling to frame None
  pub said : said_on held ≡ before ++ text

-- the same people stand everywhere
abbrev pub SamePeople : Connections → Connections → Type 0
SamePeople old new = (place : ℕ) → held_at new place ≡ held_at old place

-- whoever stands somewhere stood there before, or is a newcomer of this kind
abbrev pub Admits : (Open → Type 0) → Connections → Connections → Type 0
Admits P old new = (place : ℕ) → IfSome (held_at new place) (λ held. (held_at old place ≡ Some held) ⊎ P held)

-- what is left of a text of the node's own waits on a connection that then ends
abbrev pub IsOwn : Open → Type 0
IsOwn held = (text : Vec ℕ Global) × (held.state ≡ Saying text Close)

-- a text for a node is lost whole
pub record Loses (old new : Connections) : Type 0 where
  pub links : AreAmong (links_of old) (links_of new)
  pub people : SamePeople old new

-- it was sent
pub record SendsByLink (to : ℕ) (before text : List ℕ) (old new : Connections) : Type 0 where
  pub link : Link
  pub sent : IsSentBy to before text link
  pub links : All (λ other. Contains (links_of old) other ⊎ (other ≡ link)) (links_of new)
  pub people : SamePeople old new

-- some of it waits
pub record SendsOn (to : ℕ) (before text : List ℕ) (old new : Connections) : Type 0 where
  pub links : AreAmong (links_of old) (links_of new)
  pub people : Admits (IsOnItsWay to before text) old new

-- a text for a node is put after what has left by a link to it, whole, and once, or it is lost; to nobody else is anything said
abbrev pub SendsBehind : ℕ → List ℕ → List ℕ → Connections → Connections → Type 0
SendsBehind to before text old new = SendsByLink to before text old new ⊎ SendsOn to before text old new ⊎ Loses old new

-- the same by one of the links that were kept, or by a new one
abbrev pub Sends : ℕ → List ℕ → Connections → Connections → Type 0
Sends to text old new = (before : List ℕ) × HasLeft to (links_of old) before × SendsBehind to before text old new
