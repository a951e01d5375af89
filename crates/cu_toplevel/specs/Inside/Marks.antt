-- What is known of functions, as their first rules tell.
use Rattle.std.specs.Prelude.{option_map}
use Rattle.cu_entities.specs.Entities.{Values}
use Rattle.cu_kernel.specs.Kernel as kernel
use Rattle.cu_toplevel.specs.Heads.{Head}
use Rattle.cu_translation.specs.Around.{place_at}
use Rattle.cu_translation.specs.ModuleTypes.{Reading, is_public}
use Rattle.cu_translation.specs.Parts.{signature_of}
use Rattle.cu_translation.specs.TypeTable.{signature_type}

abbrev pub head_mark : Reading → Head → kernel.Mark
head_mark reading h = record {
  «module» = reading.number;
  public = is_public reading Values h.name;
  declared =
      option_map (signature_type reading.names) (signature_of h.name reading.m.syntax.items);
  captured = 0;
  place = place_at reading.names h.at;
}
