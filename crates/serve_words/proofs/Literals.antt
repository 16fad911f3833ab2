-- The definitions at words that are written out.
use Rattle.std.proofs.Common.{◌≡◌, true, false, [], ◌∷◌, Some, None, codes, refl}
use Rattle.clap.proofs.OnLiterals.{clap_on_literals}
use Rattle.serve_words.specs.Serve.{ends_with_record, is_recorded, is_taken, is_usage, life_in, limit_in, serve_app, value_of}

-- the least words
pub is_usage-least : is_usage (codes "serve" ∷ codes "-a" ∷ codes "s" ∷ codes "--helper" ∷ codes "h" ∷ []) ≡ false
unfolding clap_on_literals value_of is_taken serve_app
is_usage-least = refl

-- another command
pub is_usage-other : is_usage (codes "reply" ∷ []) ≡ true
unfolding clap_on_literals value_of is_taken serve_app
is_usage-other = refl

-- no path
pub is_usage-no_path : is_usage (codes "serve" ∷ codes "--helper" ∷ codes "h" ∷ []) ≡ true
unfolding clap_on_literals value_of is_taken serve_app
is_usage-no_path = refl

-- a relay alone
pub is_usage-relay_alone : is_usage (codes "serve" ∷ codes "-a" ∷ codes "s" ∷ codes "--helper" ∷ codes "h" ∷ codes "--relay" ∷ codes "r" ∷ []) ≡ true
unfolding clap_on_literals value_of is_taken serve_app
is_usage-relay_alone = refl

-- the path twice
pub is_usage-twice : is_usage (codes "serve" ∷ codes "-a" ∷ codes "s" ∷ codes "-a" ∷ codes "s" ∷ codes "--helper" ∷ codes "h" ∷ []) ≡ true
unfolding clap_on_literals value_of is_taken serve_app
is_usage-twice = refl

-- the help
pub is_usage-help : is_usage (codes "serve" ∷ codes "--help" ∷ []) ≡ true
unfolding clap_on_literals value_of is_taken serve_app
is_usage-help = refl

-- a value, and a lifetime
pub value_of-path : value_of (codes "path") (codes "serve" ∷ codes "-a" ∷ codes "s" ∷ codes "--helper" ∷ codes "h" ∷ []) ≡ Some (codes "s")
unfolding clap_on_literals value_of is_taken serve_app
value_of-path = refl

pub life_in-hour : life_in (codes "serve" ∷ codes "-a" ∷ codes "s" ∷ codes "-t" ∷ codes "1h" ∷ codes "--helper" ∷ codes "h" ∷ []) ≡ Some 3600
unfolding clap_on_literals value_of is_taken serve_app
life_in-hour = refl

-- a lifetime of 0 is none
pub life_in-none : life_in (codes "serve" ∷ codes "-a" ∷ codes "s" ∷ codes "-t" ∷ codes "0" ∷ codes "--helper" ∷ codes "h" ∷ []) ≡ None
unfolding clap_on_literals value_of is_taken serve_app
life_in-none = refl

-- a limit, none, and the least
pub limit_in-two_minutes : limit_in (codes "serve" ∷ codes "-a" ∷ codes "s" ∷ codes "--confirm-limit" ∷ codes "2m" ∷ codes "--helper" ∷ codes "h" ∷ []) ≡ Some 120
unfolding clap_on_literals value_of is_taken serve_app
limit_in-two_minutes = refl

pub limit_in-least : limit_in (codes "serve" ∷ codes "-a" ∷ codes "s" ∷ codes "--helper" ∷ codes "h" ∷ []) ≡ None
unfolding clap_on_literals value_of is_taken serve_app
limit_in-least = refl

-- a limit of 0 is none of the forms
pub is_usage-limit_of_0 : is_usage (codes "serve" ∷ codes "-a" ∷ codes "s" ∷ codes "--confirm-limit" ∷ codes "0" ∷ codes "--helper" ∷ codes "h" ∷ []) ≡ true
unfolding clap_on_literals value_of is_taken serve_app
is_usage-limit_of_0 = refl

-- a record is made where it is asked for
pub is_recorded-asked : is_recorded (codes "serve" ∷ codes "-a" ∷ codes "s" ∷ codes "--record" ∷ codes "--helper" ∷ codes "h" ∷ []) ≡ true
unfolding clap_on_literals value_of is_taken serve_app
is_recorded-asked = refl

pub is_recorded-least : is_recorded (codes "serve" ∷ codes "-a" ∷ codes "s" ∷ codes "--helper" ∷ codes "h" ∷ []) ≡ false
unfolding clap_on_literals value_of is_taken serve_app
is_recorded-least = refl

-- the agent ends with the record where that is asked for, and that is nothing without a record
pub ends_with_record-asked : ends_with_record (codes "serve" ∷ codes "-a" ∷ codes "s" ∷ codes "--record" ∷ codes "--record-or-stop" ∷ codes "--helper" ∷ codes "h" ∷ []) ≡ true
unfolding clap_on_literals value_of is_taken serve_app
ends_with_record-asked = refl

pub ends_with_record-not_asked : ends_with_record (codes "serve" ∷ codes "-a" ∷ codes "s" ∷ codes "--record" ∷ codes "--helper" ∷ codes "h" ∷ []) ≡ false
unfolding clap_on_literals value_of is_taken serve_app
ends_with_record-not_asked = refl

pub is_usage-stop_alone : is_usage (codes "serve" ∷ codes "-a" ∷ codes "s" ∷ codes "--record-or-stop" ∷ codes "--helper" ∷ codes "h" ∷ []) ≡ true
unfolding clap_on_literals value_of is_taken serve_app
is_usage-stop_alone = refl
