mod Points
