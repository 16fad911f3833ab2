-- the file is found among those that are left
use Rattle.std.proofs.Common.{◌≡◌, drop, map, string_bytes}
use Rattle.world_ports.specs.Files.{held_at}
use Rattle.world_ports.proofs.map_files.find_file.Given as goal

abbrev pub invariant-files : goal.invariant-files
invariant-files l = held_at (map (λ f. (string_bytes f.0, f.1.items)) (drop l.file-index l.files)) l.path
    ≡ held_at (map (λ f. (string_bytes f.0, f.1.items)) l.files) l.path
