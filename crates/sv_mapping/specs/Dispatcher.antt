-- Dispatchers, and their words in a descriptor (Jakarta Servlet 6.0, section 6.2.5).
use Rattle.std.specs.Prelude.{◌≡◌, ◌⊎◌, Bool, List, [], Contains, Option, Some, None, codes, bytes_eq, ◌||◌, ◌==◌, length, if◌then◌else◌}
use Rattle.std.specs.List.{list_any}
use Rattle.sv_mapping.specs.Path.{Text}
use Rattle.sv_mapping.specs.declared.dispatcher.Dispatcher.{Dispatcher}
use Rattle.sv_mapping.specs.declared.dispatcher.Dispatcher.TheVariants.{Request, Forward, Include, Error}
use Rattle.sv_mapping.specs.declared.dispatcher.Dispatchers.{Dispatchers}

abbrev pub word_of : Dispatcher → Text
word_of Request = codes "REQUEST"
word_of Forward = codes "FORWARD"
word_of Include = codes "INCLUDE"
word_of Error = codes "ERROR"

-- the dispatcher of a word
unfoldable pub dispatcher_of : Text → Option Dispatcher
dispatcher_of word =
    if bytes_eq word (codes "REQUEST") then Some Request
    else if bytes_eq word (codes "FORWARD") then Some Forward
    else if bytes_eq word (codes "INCLUDE") then Some Include
    else if bytes_eq word (codes "ERROR") then Some Error
    else None

-- a set of dispatchers has one
abbrev pub carries : Dispatchers → Dispatcher → Bool
carries dispatchers Request = dispatchers.request
carries dispatchers Forward = dispatchers.forward
carries dispatchers Include = dispatchers.include
carries dispatchers Error = dispatchers.error

-- A mapping that lists these dispatchers is for one: it is listed, or none is and it is REQUEST.
abbrev pub IsListed : List Dispatcher → Dispatcher → Type 0
IsListed listed dispatcher = Contains listed dispatcher ⊎ ((listed ≡ []) × (dispatcher ≡ Request))

-- the word is among these
abbrev pub is_among : List Text → Text → Bool
is_among words word = list_any (λ its. bytes_eq its word) words

abbrev pub means_request : List Text → Bool
means_request words = length words == 0 || is_among words (codes "REQUEST")

-- The dispatchers of a mapping that lists these words; no word means REQUEST alone.
abbrev pub dispatchers_of : List Text → Dispatchers
dispatchers_of words = record {
  request = means_request words;
  forward = is_among words (codes "FORWARD");
  include = is_among words (codes "INCLUDE");
  error = is_among words (codes "ERROR");
}
