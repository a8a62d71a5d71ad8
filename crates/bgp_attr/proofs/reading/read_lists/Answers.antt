use Rattle.bgp_attr.proofs.reading.read_lists.Goals as goal

pub returns : goal.returns
returns g c = (c.in_ok-read_merged_path.ensures, c.in_ok-read_communities.ensures, c.in_ok-read_cluster_list.ensures, c.in_ok-read_long_items.ensures, c.in_ok-read_large_items.ensures)
