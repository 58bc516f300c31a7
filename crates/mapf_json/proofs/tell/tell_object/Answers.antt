use Rattle.std.proofs.Common.{refl}
use Rattle.mapf_json.specs.Written.{object_text}
use Rattle.mapf_json.proofs.ToldLemmas.{answer_told}
use Rattle.mapf_json.proofs.tell.tell_object.Goals as goal

pub returns : goal.returns
returns g c =
    answer_told c.write_object.result _ _ _ (object_text c.args.object.now) _ _ _ refl c.write_object.ensures.failed c.write_object.ensures.text c.write_object.ensures.prefix c.told.ensures
