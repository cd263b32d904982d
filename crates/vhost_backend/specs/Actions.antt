-- What is to be done for a ring, as a list.
use Rattle.std.specs.Prelude.{Bool, true, false, if◌then◌else◌, List, [], ◌∷◌, ◌++◌, Option, Some, None}
use Rattle.vhost_backend.specs.declared.ring.actions.RingAction.{RingAction}
use Rattle.vhost_backend.specs.declared.ring.actions.RingAction.TheVariants.{Notify, Pop, Stopped}

abbrev pub listed_one : Option RingAction → List RingAction
listed_one None = []
listed_one (Some action) = action ∷ []

-- an action, if it is to be done
abbrev pub if_so : Bool → RingAction → List RingAction
if_so is action = if is then action ∷ [] else []

-- one after another
abbrev pub listed : Option RingAction → Bool → Bool → Bool → List RingAction
listed first notifies pops stopped =
    listed_one first ++ (if_so notifies Notify ++ (if_so pops Pop ++ if_so stopped Stopped))

-- whether it answers the message that stopped the ring
abbrev pub is_answer : RingAction → Bool
is_answer Stopped = true
is_answer _ = false
