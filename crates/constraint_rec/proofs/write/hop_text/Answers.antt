use Rattle.std.proofs.Common.{◌≡◌, ℕ, List, [], ◌++◌, map, ap, ◌∙◌}
use Rattle.std.specs.List.{flat_map}
use Rattle.std.proofs.lemmas.List.Folds.{flat_map-map}
use Rattle.wire_text.specs.Wire.{string}
use Rattle.constraint_rec.specs.Hops.{key_text}
use Rattle.constraint_rec.specs.Writing.{spelt_key, spelt_hop}
use Rattle.constraint_rec.proofs.SizeLemmas.{hop_fits, four_parts}
use Rattle.constraint_rec.proofs.write.hop_text.Goals as goal

pub put_string-requires : goal.put_string-requires
put_string-requires c = rw c.as_slice.ensures (hop_fits (spelt_hop c.args.hop.now) c.requires).user

pub put_string-requires-2 : goal.put_string-requires-2
put_string-requires-2 c = rw c.as_slice-2.ensures (hop_fits (spelt_hop c.args.hop.now) c.requires).host

pub put_keys-requires : goal.put_keys-requires
put_keys-requires c =
    rw (c.as_slice-3.ensures, ← (flat_map-map key_text spelt_key c.args.hop.now.keys)) (hop_fits (spelt_hop c.args.hop.now) c.requires).keys

pub returns : goal.returns
returns c =
    let hop = c.args.hop.now in
    let user : c.put_string.new.out.items ≡ c.new-text.result.items ++ string hop.user =
    c.in_ok-put_string.ensures.ok ∙ ap (λ (t : List ℕ). c.new-text.result.items ++ string t) c.as_slice.ensures in
    let host : c.put_string-2.new.out.items ≡ c.put_string.new.out.items ++ string hop.host =
    c.in_ok-put_string-2.ensures.ok ∙ ap (λ (t : List ℕ). c.put_string.new.out.items ++ string t) c.as_slice-2.ensures in
    let keys : c.put_keys.new.out.items ≡ c.put_string-3.new.out.items ++ flat_map key_text (map spelt_key hop.keys) =
    rw (flat_map-map key_text spelt_key hop.keys, ← c.as_slice-3.ensures) c.in_ok-put_keys.ensures in
    four_parts c.new-text.result.items c.put_string.new.out.items c.put_string-2.new.out.items c.put_string-3.new.out.items c.put_keys.new.out.items
    (string hop.user) (string hop.host) (string []) (flat_map key_text (map spelt_key hop.keys))
    c.new-text.ensures.items user host c.in_ok-put_string-3.ensures.ok keys
